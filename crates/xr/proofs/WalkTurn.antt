-- One turn of the walk's loops, on plain lists and numbers: at the place of block n.
use Rattle.std.specs.Prelude.{Ok, Err}
use Prim.Native.Nat.{ℕ, suc, ◌+◌, ◌-◌, ◌≤◌, ◌<◌}
use mathlib.Core.Path.{◌≡◌, refl, sym, ap, ◌∙◌}
use mathlib.Core.List.{List}
use native.Mathlib.Omega.{arith}
use lib.ListN.{length}
use lib.Dec.{ltb}
use borrow.Author.Tests.{ltb-true, ltb-false}
use Rattle.def_refusals.specs.Answers.{Or}
use Rattle.laws.proofs.Tests.{either}
use Rattle.def_refusals.specs.declared.Refusal.{Refusal}
use Rattle.def_refusals.specs.declared.Refusal.TheVariants.{BlockTooLong}
use Rattle.def_wire.specs.Packet.{length_at, place_of, walk_from}
use Rattle.xr.specs.Walks.{Walking, Reach, Walk}
use Rattle.xr.proofs.WalkLaws.{walk_end, walk-next, walk-cut, place-next, place-zero, done-eq, no}

module _ (s : List ℕ) (stop : ℕ) where
  pub begun : 8 ≤ stop → Walking s stop 8 0
  begun h =
      record {
        before = h;
        word = refl;
        count = omega arith;
        here = sym (place-zero s);
        walk = ap
            (λ (f : ℕ). walk_from s stop f 8 0) (let k : length s - 0 ≡ length s = omega arith in k);
      }

  module _ (fits : stop ≤ length s) (at n : ℕ) (w : Walking s stop at n) (more : at < stop) where
    -- the fuel of this turn
    fuel : length s - n ≡ suc (length s - (n + 1))
    fuel = omega (arith, w.count)

    pub turned : length_at s at ≤ stop - at → Walking s stop (at + length_at s at) (n + 1)
    turned l =
        record {
          before = omega arith;
          word = omega (arith, w.word);
          count = omega (arith, w.count);
          here = ap (λ (x : ℕ). x + length_at s x) w.here ∙ sym (place-next s n);
          walk = sym (walk-next s stop at n (length s - n) (length s - (n + 1)) fuel more l) ∙ w.walk;
        }

    pub cut : stop - at < length_at s at → Err (BlockTooLong (length_at s at) (stop - at)) ≡ walk_from s stop
        (length s) 8 0
    cut l = sym (walk-cut s stop at n (length s - n) (length s - (n + 1)) fuel more l) ∙ w.walk

  pub ended : (at n : ℕ) → Walking s stop at n → stop ≤ at → Ok n ≡ walk_from s stop (length s) 8 0
  ended at n w h = sym (walk_end s stop at n (length s - n) h) ∙ w.walk

  -- the ways in which the walk to block k ends
  pub reached : (k at n : ℕ) → Walking s stop at n → n ≤ k → (n < k → stop ≤ at) → Reach s stop k (Ok n) at
  reached k at n w l e =
      record {
        cut = λ x q. no (sym q);
        at = λ m q. rw (← done-eq q) w;
        near = λ m q. rw (← done-eq q) l;
        ended = λ m q. rw (← done-eq q) e;
      }

  pub unreached : (k at : ℕ) (x : Refusal) → Err x ≡ walk_from s stop (length s) 8 0 → Reach s stop k (Err x) at
  unreached k at x e = record { cut = λ y q. e; at = λ m q. no q; near = λ m q. no q; ended = λ m q. no q }

  -- the whole walk, of the walk to block k and the rest of it
  pub walked : (k place n : ℕ) (count passed : Or ℕ) → Reach s stop k passed place → passed ≡ Ok n
      → count ≡ walk_from s stop (length s) 8 0
      → Walk s stop k count place
  walked k place n count passed r p c =
      record {
        counted = c;
        placed = λ m e l.
            either (ltb n k)
            (λ t. let f : Ok n ≡ count = ended place n (r.at n p) (r.ended n p (ltb-true _ _ t)) ∙ sym c in
            let q : n ≡ m = done-eq (f ∙ e) in
            let b : n < k = ltb-true _ _ t in absurd (omega arith))
            (λ f. let b : k ≤ n = ltb-false _ _ f in
            let q : n ≡ k = let d : n ≤ k = r.near n p in omega arith in
            (r.at n p).here ∙ ap (place_of s) q);
      }

  pub walked-cut : (k place : ℕ) (x : Refusal) (passed : Or ℕ) → Reach s stop k passed place → passed ≡ Err x
      → Walk s stop k (Err x) place
  walked-cut k place x passed r p = record { counted = sym p ∙ r.cut x p; placed = λ m e l. no e }
