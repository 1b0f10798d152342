use Rattle.model.proofs.Sound.{every-run-is-sound}
use Rattle.model.proofs.every_run_is_sound.Goals as goal

pub returns : goal.returns
returns c = every-run-is-sound
