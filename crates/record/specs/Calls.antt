-- What the calls on records answer, and what they leave in a lent slice, for every size n, every pattern p, every record r and every list q
-- in whose place something is written.
--     write_reply, write_end        the record of a pattern; its refusals are those of any call that reads a pattern and writes another slice
--     layout_check                  what is asked of a record before its places are looked at
--     places_check                  and of the places, and of the slice that they are to be put into
--     read_check, read_reply, read_end   the pattern of a record, and its size
-- Assumes nothing.
use Rattle.std.specs.Prelude.{List, ℕ, ◌*◌, ltb, eqb, length, get_or, Ok}
use Rattle.shape.specs.Form.{patterns, every, balance_fits}
use Rattle.shape.specs.Reply.{Reply, outcome_reply, Outcome}
use Rattle.shape.specs.Check.{unless, and_then, sized, record_length, reply, unless_refused}
use Rattle.shape.specs.Calls.{conversion_check}
use Rattle.shape.specs.declared.Refusal.TheVariants.{Size, Length, Shape, Record}
use Rattle.record.specs.Record.{record_of, size_in, mark_in, places_in, fill_in}

-- 01, Refusal numbers, 1 to 4.
unfoldable pub write_reply : ℕ → List ℕ → List ℕ → Reply
write_reply n p r = outcome_reply (conversion_check patterns record_length n p r)

unfoldable pub write_end : ℕ → List ℕ → List ℕ → List ℕ
write_end n p r = unless_refused (conversion_check patterns record_length n p r) (record_of n p) r

-- 01, Refusal numbers: empty 10, size 1, the rest of 10, which are the mark, the length and the fill.
unfoldable pub layout_check : List ℕ → Outcome
layout_check r =
    unless (ltb 0 (length r)) Record
    (unless (sized (size_in r)) Size
    (unless (eqb (mark_in r) 0) Record
    (unless (eqb (length r) (record_length (size_in r))) Record
    (unless (every (length (fill_in r)) (λ i. eqb (get_or (fill_in r) i 0) 0)) Record (Ok tt)))))

-- Then room for the places 2, then 4. A bit is never above 1, so 3 does not come.
unfoldable pub places_check : List ℕ → List ℕ → Outcome
places_check r q =
    unless (eqb (length q) (2 * size_in r)) Length (unless (every (2 * size_in r) (balance_fits (size_in r) (places_in r))) Shape (Ok tt))

unfoldable pub read_check : List ℕ → List ℕ → Outcome
read_check r q = and_then (layout_check r) (places_check r q)

unfoldable pub read_reply : List ℕ → List ℕ → Reply
read_reply r q = reply (read_check r q) (size_in r)

unfoldable pub read_end : List ℕ → List ℕ → List ℕ
read_end r q = unless_refused (read_check r q) (places_in r) q
