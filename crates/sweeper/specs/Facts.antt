-- The facts of a session have at most one proof, so a session can keep them as one fact.
use Rattle.std.proofs.Props.{props}
use Rattle.sweeper.specs.Tables.{Image, Sound}

pub sound_prop : (c : Image) → IsProp (Sound c)
sound_prop c = hlevel props
