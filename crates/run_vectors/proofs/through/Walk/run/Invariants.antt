-- A run's steps end: each shape that is handed out shortens the list.
-- Assumes nothing.
use Rattle.std.proofs.Common.{length}
use Rattle.run_vectors.proofs.through.Walk.run.Given as goal

abbrev pub decreases-loop-last : goal.decreases-loop-last
decreases-loop-last l = length l.self.list.rest.now
