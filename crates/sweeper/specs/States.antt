-- A session from outside: its tables, and its state in the model.
use Rattle.model.specs.Sessions.{State}
use Rattle.sweeper.specs.declared.session.Session.{Session}
use Rattle.sweeper.specs.Tables.{Image, image, state_of}

abbrev pub image_in : Session → Image
image_in s = image s.core

abbrev pub state_in : Session → State
state_in s = state_of (image_in s)
