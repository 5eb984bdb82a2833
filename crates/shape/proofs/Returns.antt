-- Calls one after another, as their users see them, over any numbering whose laws hold and whose form's tests find what is well formed.
--     number_of_shape              a shape made from a number is numbered so
--     shape_of_number              the shape with a shape's number is that shape
--     number_of_successor, number_of_predecessor      a step on has the number one higher, a step back the number one lower
--     predecessor_of_successor     a step back undoes a step on
--     successor_of_predecessor     and the other way round
--     next_back, previous_on       after a step on there is a step back, and the other way round
-- Assumes nothing.
use mathlib.Core.Path.{◌≡◌, ap}
use mathlib.Core.List.{List}
use Prim.Native.Nat.{ℕ, ◌+◌, ◌-◌}
use native.Mathlib.Omega.{arith}
use lib.ListN.{length}
use Rattle.shape.specs.Form.{Tested}
use Rattle.shape.specs.Numbering.{Numbering, Lawful, next, previous}
use Rattle.shape.specs.Check.{checked, number_check, successor_check, predecessor_check, reply}
use Rattle.shape.specs.Calls.{number_reply, shape_end, successor_end, predecessor_end}
use Rattle.std.specs.Prelude.{Ok}
use Rattle.shape.proofs.Steps.{next_formed, number_next, previous_next, previous_formed, number_previous, next_previous}
use Rattle.shape.proofs.Checks.{checked_done, number_done, successor_done, predecessor_done}

module _ (N : Numbering) (laws : Lawful N) (tested : Tested N.form) (p : List ℕ) where
  pub number_of_shape : (k : ℕ) → number_check N k p ≡ Ok tt → number_reply N (shape_end N k p) ≡ reply (Ok tt) k
  unfolding number_reply shape_end
  number_of_shape k e =
      let (sized, long, below) = (number_done N k p).0 e in
      rw (e, (checked_done N.form tested N.nodes (N.shape k)).1 (sized, laws.shape_formed k below))
      (ap (reply (Ok tt)) (laws.number_shape k below))

  pub shape_of_number : (q : List ℕ) → length q ≡ N.form.length_of N.nodes → checked N.form N.nodes p ≡ Ok tt
      → shape_end N (N.number p) q ≡ p
  unfolding shape_end
  shape_of_number q long e =
      let (sized, formed) = (checked_done N.form tested N.nodes p).0 e in
      rw ((number_done N (N.number p) q).1 (sized, long, laws.number_below p formed)) (laws.shape_number p formed)

  module _ (e : successor_check N p ≡ Ok tt) where
    pub next_back : predecessor_check N (next N p) ≡ Ok tt
    next_back =
        let (sized, formed, below) = (successor_done N tested p).0 e in
        (predecessor_done N tested (next N p)).1
        (sized, next_formed N laws p formed below, omega (arith, number_next N laws p formed below))

    pub number_of_successor : number_reply N (successor_end N p) ≡ reply (Ok tt) (N.number p + 1)
    unfolding number_reply successor_end
    number_of_successor =
        let (sized, formed, below) = (successor_done N tested p).0 e in
        rw (e, (checked_done N.form tested N.nodes (next N p)).1 (sized, next_formed N laws p formed below))
        (ap (reply (Ok tt)) (number_next N laws p formed below))

    pub predecessor_of_successor : predecessor_end N (successor_end N p) ≡ p
    unfolding predecessor_end successor_end
    predecessor_of_successor =
        let (sized, formed, below) = (successor_done N tested p).0 e in
        rw (e, next_back) (previous_next N laws p formed below)

  module _ (e : predecessor_check N p ≡ Ok tt) where
    pub previous_on : successor_check N (previous N p) ≡ Ok tt
    previous_on =
        let (sized, formed, some) = (predecessor_done N tested p).0 e in
        (successor_done N tested (previous N p)).1
        (sized, previous_formed N laws p formed, omega (arith, number_previous N laws p formed, laws.number_below p formed))

    pub number_of_predecessor : number_reply N (predecessor_end N p) ≡ reply (Ok tt) (N.number p - 1)
    unfolding number_reply predecessor_end
    number_of_predecessor =
        let (sized, formed, some) = (predecessor_done N tested p).0 e in
        rw (e, (checked_done N.form tested N.nodes (previous N p)).1 (sized, previous_formed N laws p formed))
        (ap (reply (Ok tt)) (number_previous N laws p formed))

    pub successor_of_predecessor : successor_end N (predecessor_end N p) ≡ p
    unfolding successor_end predecessor_end
    successor_of_predecessor =
        let (sized, formed, some) = (predecessor_done N tested p).0 e in
        rw (e, previous_on) (next_previous N laws p formed some)
