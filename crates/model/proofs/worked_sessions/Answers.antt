use Rattle.model.proofs.Worked.{worked_sessions}
use Rattle.model.proofs.worked_sessions.Goals as goal

pub returns : goal.returns
returns c = worked_sessions
