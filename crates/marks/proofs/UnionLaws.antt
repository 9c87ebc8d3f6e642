-- The bits that some byte has. Assumes nothing.
--     or-marks, marks-or      a union is 0 or 1 exactly where both its parts are
--     Union                   what the bits of the first k bytes tell
--     block-rest, ..          a block of the marks, and what is behind it
use Rattle.std.proofs.Common.{sym, ap, ◌∙◌, ◌++◌, drop-drop, length-drop, length-append}
use Rattle.std.proofs.Math.Seq.{drop-append_seam}
use Rattle.std.proofs.Math.ListN.{get_or-append}
use Rattle.def_marks.specs.Marks.{bad_from}
use Rattle.marked.proofs.FaultLaws.{bad-skip}
use Prim.Native.Nat.{ℕ, zero, suc, ◌+◌, ◌≤◌, ◌<◌}
use mathlib.Core.Path.{◌≡◌}
use mathlib.Core.List.{List}
use native.Mathlib.Omega.{arith}
use lib.ListN.{length, drop}
use lib.Seq.{get_or-drop}
use lib.Dec.{ltb}
use borrow.Author.Tests.{ltb-true, ltb-false}
use lib.Bits.{bit_or, or_add_and, and_le_l, and_le_r}
use Rattle.laws.proofs.Tests.{either}
use Rattle.def_wire.specs.Bytes.{byte_at}
use Rattle.marked.specs.Marked.{Marks}

pub or-marks : (a b : ℕ) → bit_or a b ≤ 1 → (a ≤ 1) × (b ≤ 1)
or-marks a b h = let o = or_add_and a b in (omega (arith, o, and_le_r a b), omega (arith, o, and_le_l a b))

pub marks-or : (a b : ℕ) → a ≤ 1 → b ≤ 1 → bit_or a b ≤ 1
marks-or zero zero p q = omega arith
marks-or zero (suc zero) p q = omega arith
marks-or (suc zero) zero p q = omega arith
marks-or (suc zero) (suc zero) p q = omega arith
marks-or zero (suc (suc b)) p q = absurd (omega arith)
marks-or (suc (suc a)) b p q = absurd (omega arith)
marks-or (suc zero) (suc (suc b)) p q = absurd (omega arith)

pub record Union (ms : List ℕ) (k seen : ℕ) : Type 0 where
  pub each : seen ≤ 1 → (j : ℕ) → j < k → byte_at ms j ≤ 1
  pub none : ((j : ℕ) → j < k → byte_at ms j ≤ 1) → seen ≤ 1

pub union_more : (ms : List ℕ) (k seen : ℕ) → Union ms k seen → Union ms (k + 1) (bit_or seen (byte_at ms k))
union_more ms k seen u =
    let x : ℕ = byte_at ms k in
    record {
      each = λ b j h.
          either (ltb j k) (λ t. u.each (or-marks seen x b).0 j (ltb-true j k t))
          (λ t. let e : j ≡ k = omega (arith, ltb-false j k t, h) in rw e (or-marks seen x b).1);
      none = λ each.
          marks-or seen x (u.none (λ j h. each j (omega (arith, h)))) (each k (omega arith));
    }

-- a block of the marks from a place on, and what is behind it
module _ (ms : List ℕ) (at : ℕ) (block rest : List ℕ) (e : drop at ms ≡ block ++ rest) (h : at ≤ length ms) where
  pub block-rest : rest ≡ drop (at + length block) ms
  block-rest = sym (drop-append_seam block rest) ∙ ap (drop (length block)) (sym e) ∙ drop-drop (length block) at ms

  pub block-within : at + length block ≤ length ms
  block-within = omega (arith, ap length e ∙ length-append block rest, length-drop at ms)

  pub block-marks : Marks block → bad_from at (drop at ms) ≡ bad_from (at + length block) (drop (at + length block) ms)
  block-marks marks =
      bad-skip (length block) at ms block-within
      (λ j l. rw (← get_or-drop at ms j 0, e, get_or-append block rest 0 j l) (marks j))
