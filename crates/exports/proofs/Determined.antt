-- Each function's contract asks nothing of its caller and says exactly what is seen of it: the answer, and what is left in a slice that it
-- writes. So two answers that meet it are equal, and so are the slices in the end. n is the size, k a number, d a distance, p and q what is lent, s what
-- the written slice is in the end, t a run's state.
-- Assumes nothing.
use mathlib.Core.Logic.Iff
use mathlib.Core.List.{List}
use Prim.Native.Nat.{ℕ}
use lib.ListN.{length}
use Rattle.shape.specs.Form.{patterns, permutations}
use Rattle.shape.specs.Numbering.{local, natural}
use Rattle.shape.specs.Determined.{Determined, determined, exact_both}
use Rattle.shape.specs.Calls.{check_reply, number_reply, shape_reply, shape_end, successor_reply, successor_end, predecessor_reply, predecessor_end}
use Rattle.shape.specs.Calls.{conversion_reply, conversion_end}
use Rattle.shape.specs.Move.{move_reply, move_end}
use Rattle.pattern.specs.Calls.{successor_change, predecessor_change, depth_reply}
use Rattle.record.specs.Calls.{write_reply, write_end, read_reply, read_end}
use Rattle.lines.specs.declared.Sheet.{Sheet}
use Rattle.lines.specs.Calls.{open_sheet, fill_end}
use Rattle.exports.specs.declared.Reply.{Reply}
use Rattle.exports.specs.declared.patterns.Part.{Part}
use Rattle.exports.specs.declared.runs.Started.{Started}
use Rattle.exports.specs.declared.runs.Stepped.{Stepped}
use Rattle.exports.specs.declared.sheets.Filled.{Filled}
use Rattle.exports.specs.Crossing.{replied, head_told, later_told, start_told, step_told, fill_told}
use Rattle.exports.proofs.patterns.spire_pattern_check.Reads as pattern-check
use Rattle.exports.proofs.patterns.spire_pattern_number.Reads as pattern_number
use Rattle.exports.proofs.patterns.spire_pattern_shape.Reads as pattern-shape
use Rattle.exports.proofs.patterns.spire_pattern_successor.Reads as pattern-successor
use Rattle.exports.proofs.patterns.spire_pattern_predecessor.Reads as pattern-predecessor
use Rattle.exports.proofs.patterns.spire_pattern_move.Reads as pattern-move
use Rattle.exports.proofs.patterns.spire_pattern_depth.Reads as pattern-depth
use Rattle.exports.proofs.patterns.spire_pattern_head.Reads as pattern-head
use Rattle.exports.proofs.patterns.spire_pattern_later.Reads as pattern-later
use Rattle.exports.proofs.permutations.spire_permutation_check.Reads as permutation-check
use Rattle.exports.proofs.permutations.spire_permutation_number.Reads as permutation-number
use Rattle.exports.proofs.permutations.spire_permutation_shape.Reads as permutation_shape
use Rattle.exports.proofs.permutations.spire_permutation_successor.Reads as permutation-successor
use Rattle.exports.proofs.permutations.spire_permutation_predecessor.Reads as permutation-predecessor
use Rattle.exports.proofs.permutations.spire_permutation_move.Reads as permutation-move
use Rattle.exports.proofs.conversions.spire_to_permutation.Reads as to-permutation
use Rattle.exports.proofs.conversions.spire_to_pattern.Reads as to-pattern
use Rattle.exports.proofs.runs.spire_run_start.Reads as run-start
use Rattle.exports.proofs.runs.spire_run_step.Reads as run_step
use Rattle.exports.proofs.records.spire_record_write.Reads as record-write
use Rattle.exports.proofs.records.spire_record_read.Reads as record_read
use Rattle.exports.proofs.sheets.spire_sheet_open.Reads as sheet-open
use Rattle.exports.proofs.sheets.spire_sheet_fill.Reads as sheet-fill

pub pattern_check_determined : Determined Reply pattern-check.Pre pattern-check.Post (λ κ r s. r)
    (λ κ (n, (p, _)). replied (check_reply patterns n p.now))
pattern_check_determined = determined (λ κ a. tt) (λ κ a r s. Iff.rfl)

pub pattern_number_determined : Determined Reply pattern_number.Pre pattern_number.Post (λ κ r s. r)
    (λ κ (n, (p, _)). replied (number_reply (local n) p.now))
pattern_number_determined = determined (λ κ a. tt) (λ κ a r s. Iff.rfl)

pub pattern_shape_determined : Determined (Reply × List ℕ) pattern-shape.Pre pattern-shape.Post (λ κ r (_, (_, (s, _))). (r, s.now))
    (λ κ (n, (k, (p, _))). (replied (shape_reply (local n) k p.now), shape_end (local n) k p.now))
pattern_shape_determined = determined (λ κ a. tt) (λ κ a r s. exact_both Iff.rfl Iff.rfl)

pub pattern_successor_determined : Determined (Reply × List ℕ) pattern-successor.Pre pattern-successor.Post
    (λ κ r (_, (s, _)). (r, s.now))
    (λ κ (n, (p, _)). (replied (successor_change n p.now), successor_end (local n) p.now))
pattern_successor_determined = determined (λ κ a. tt) (λ κ a r s. exact_both Iff.rfl Iff.rfl)

pub pattern_predecessor_determined : Determined (Reply × List ℕ) pattern-predecessor.Pre pattern-predecessor.Post
    (λ κ r (_, (s, _)). (r, s.now))
    (λ κ (n, (p, _)). (replied (predecessor_change n p.now), predecessor_end (local n) p.now))
pattern_predecessor_determined = determined (λ κ a. tt) (λ κ a r s. exact_both Iff.rfl Iff.rfl)

pub pattern_move_determined : Determined (Reply × List ℕ) pattern-move.Pre pattern-move.Post (λ κ r (_, (_, (s, _))). (r, s.now))
    (λ κ (n, (d, (p, _))). (replied (move_reply (local n) d p.now), move_end (local n) d p.now))
pattern_move_determined = determined (λ κ a. tt) (λ κ a r s. exact_both Iff.rfl Iff.rfl)

pub pattern_depth_determined : Determined Reply pattern-depth.Pre pattern-depth.Post (λ κ r s. r)
    (λ κ (n, (p, _)). replied (depth_reply n p.now))
pattern_depth_determined = determined (λ κ a. tt) (λ κ a r s. Iff.rfl)

pub pattern_head_determined : Determined Part pattern-head.Pre pattern-head.Post (λ κ r s. r) (λ κ (n, (p, _)). head_told n p.now)
pattern_head_determined = determined (λ κ a. tt) (λ κ a r s. Iff.rfl)

pub pattern_later_determined : Determined Part pattern-later.Pre pattern-later.Post (λ κ r s. r)
    (λ κ (n, (p, (q, _))). later_told n p.now q.now)
pattern_later_determined = determined (λ κ a. tt) (λ κ a r s. Iff.rfl)

pub permutation_check_determined : Determined Reply permutation-check.Pre permutation-check.Post (λ κ r s. r)
    (λ κ (n, (p, _)). replied (check_reply permutations n p.now))
permutation_check_determined = determined (λ κ a. tt) (λ κ a r s. Iff.rfl)

pub permutation_number_determined : Determined Reply permutation-number.Pre permutation-number.Post (λ κ r s. r)
    (λ κ (n, (p, _)). replied (number_reply (natural n) p.now))
permutation_number_determined = determined (λ κ a. tt) (λ κ a r s. Iff.rfl)

pub permutation_shape_determined : Determined (Reply × List ℕ) permutation_shape.Pre permutation_shape.Post
    (λ κ r (_, (_, (s, _))). (r, s.now))
    (λ κ (n, (k, (p, _))). (replied (shape_reply (natural n) k p.now), shape_end (natural n) k p.now))
permutation_shape_determined = determined (λ κ a. tt) (λ κ a r s. exact_both Iff.rfl Iff.rfl)

pub permutation_successor_determined : Determined (Reply × List ℕ) permutation-successor.Pre permutation-successor.Post
    (λ κ r (_, (s, _)). (r, s.now))
    (λ κ (n, (p, _)). (replied (successor_reply (natural n) p.now), successor_end (natural n) p.now))
permutation_successor_determined = determined (λ κ a. tt) (λ κ a r s. exact_both Iff.rfl Iff.rfl)

pub permutation_predecessor_determined : Determined (Reply × List ℕ) permutation-predecessor.Pre permutation-predecessor.Post
    (λ κ r (_, (s, _)). (r, s.now))
    (λ κ (n, (p, _)). (replied (predecessor_reply (natural n) p.now), predecessor_end (natural n) p.now))
permutation_predecessor_determined = determined (λ κ a. tt) (λ κ a r s. exact_both Iff.rfl Iff.rfl)

pub permutation_move_determined : Determined (Reply × List ℕ) permutation-move.Pre permutation-move.Post (λ κ r (_, (_, (s, _))). (r, s.now))
    (λ κ (n, (d, (p, _))). (replied (move_reply (natural n) d p.now), move_end (natural n) d p.now))
permutation_move_determined = determined (λ κ a. tt) (λ κ a r s. exact_both Iff.rfl Iff.rfl)

pub to_permutation_determined : Determined (Reply × List ℕ) to-permutation.Pre to-permutation.Post (λ κ r (_, (_, (s, _))). (r, s.now))
    (λ κ (n, (p, (q, _))). (
      replied (conversion_reply patterns permutations n p.now q.now),
      conversion_end patterns permutations n p.now q.now,
    ))
to_permutation_determined = determined (λ κ a. tt) (λ κ a r s. exact_both Iff.rfl Iff.rfl)

pub to_pattern_determined : Determined (Reply × List ℕ) to-pattern.Pre to-pattern.Post (λ κ r (_, (_, (s, _))). (r, s.now))
    (λ κ (n, (p, (q, _))). (
      replied (conversion_reply permutations patterns n p.now q.now),
      conversion_end permutations patterns n p.now q.now,
    ))
to_pattern_determined = determined (λ κ a. tt) (λ κ a r s. exact_both Iff.rfl Iff.rfl)

pub run_start_determined : Determined Started run-start.Pre run-start.Post (λ κ r s. r) (λ κ (n, (k, (end, _))). start_told n k end)
run_start_determined = determined (λ κ a. tt) (λ κ a r s. Iff.rfl)

pub run_step_determined : Determined Stepped run_step.Pre run_step.Post (λ κ r s. r) (λ κ (t, _). step_told t)
run_step_determined = determined (λ κ a. tt) (λ κ a r s. Iff.rfl)

pub record_write_determined : Determined (Reply × List ℕ) record-write.Pre record-write.Post (λ κ r (_, (_, (s, _))). (r, s.now))
    (λ κ (n, (p, (q, _))). (replied (write_reply n p.now q.now), write_end n p.now q.now))
record_write_determined = determined (λ κ a. tt) (λ κ a r s. exact_both Iff.rfl Iff.rfl)

pub record_read_determined : Determined (Reply × List ℕ) record_read.Pre record_read.Post (λ κ r (_, (s, _)). (r, s.now))
    (λ κ (p, (q, _)). (replied (read_reply p.now q.now), read_end p.now q.now))
record_read_determined = determined (λ κ a. tt) (λ κ a r s. exact_both Iff.rfl Iff.rfl)

pub sheet_open_determined : Determined Sheet sheet-open.Pre sheet-open.Post (λ κ r s. r) (λ κ (p, _). open_sheet p.now)
sheet_open_determined = determined (λ κ a. tt) (λ κ a r s. Iff.rfl)

pub sheet_fill_determined : Determined (Filled × List ℕ) sheet-fill.Pre sheet-fill.Post (λ κ r (_, (s, _)). (r, s.now))
    (λ κ (t, (p, _)). (fill_told t (length p.now), fill_end t p.now))
sheet_fill_determined = determined (λ κ a. tt) (λ κ a r s. exact_both Iff.rfl Iff.rfl)
