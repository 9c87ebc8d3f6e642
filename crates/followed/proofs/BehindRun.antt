-- What comes behind a block: the next one's first four bytes, or the packet's end. Assumes nothing.
--     next-over       nothing is left: the end
--     next-block      a block begins
--     ending-none     behind the block's last byte
--     ending-more     bytes of the block, and then others
--     opened-item     the next item of a block; opened-none, where there is none
--     ending-done     the block's bytes have all come; ending-open, more of them are to come
use Rattle.std.specs.Prelude.{Ok}
use Prim.Native.Nat.{ℕ, ◌+◌, ◌-◌, ◌≤◌, ◌<◌}
use mathlib.Core.Path.{◌≡◌, sym, ◌∙◌}
use mathlib.Core.Bool.{false}
use mathlib.Core.List.{List, [], ◌∷◌, ◌++◌}
use native.Mathlib.Omega.{arith}
use lib.ListN.{length, drop, length-append}
use lib.Seq.{drop-append-add}
use lib.Dec.{ltb, eqb}
use borrow.Author.Tests.{lt-ltb, le-ltb, ltb-true, ltb-false}
use Rattle.laws.proofs.Tests.{either}
use Rattle.def_portions.specs.declared.Event.TheVariants.{End}
use Rattle.def_portions.specs.Events.{course, quiet}
use Rattle.states.specs.declared.Known.{Known}
use Rattle.states.specs.Steps.{state, block, over, known, next_block, opened}
use Rattle.followed.specs.Run.{run_of, opening, ending}
use Rattle.followed.proofs.ItemRun.{not-zero, over-run}

ltb-shift : (n a b : ℕ) → ltb (n + a) (n + b) ≡ ltb a b
ltb-shift n a b =
    either (ltb a b)
    (λ t. let h : a < b = ltb-true _ _ t in lt-ltb (n + a) (n + b) (omega arith) ∙ sym t)
    (λ f. let h : b ≤ a = ltb-false _ _ f in le-ltb (n + a) (n + b) (omega arith) ∙ sym f)

-- the same announced length, and nothing else known
abbrev pub bare : Known → Known
bare k = known k.announced 0 0 0 0

module _ (k : Known) (behind : ℕ) (bs : List ℕ) where
  pub next-over : behind ≡ 0 → opening (next_block k behind) bs ≡ course (End ∷ []) (Ok tt)
  unfolding next_block
  next-over e = rw e (over-run (bare k) bs)

  pub next-block : 0 < behind
      → opening (next_block k behind) bs ≡ run_of (state block 4 0 0 (behind - 4) (bare k)) bs
  unfolding next_block opening
  next-block h = rw (not-zero behind h)

  pub ending-none : opening (next_block k behind) bs ≡ ending k.announced 0 behind bs
  unfolding ending next_block
  ending-none = rw (le-ltb (length bs) 0 (omega arith))

pub ending-more : (announced n rest behind : ℕ) (bs x : List ℕ) → length bs ≡ n
    → ending announced (n + rest) behind (bs ++ x) ≡ ending announced rest behind x
unfolding ending
ending-more announced n rest behind bs x e =
    rw (← e, length-append bs x, drop-append-add bs x rest, ltb-shift (length bs) (length x) rest)

pub ending-done : (announced rest behind : ℕ) (bs : List ℕ) → rest ≤ length bs
    → ending announced rest behind bs ≡ opening (next_block (known announced 0 0 0 0) behind) (drop rest bs)
unfolding ending
ending-done announced rest behind bs h = rw (le-ltb _ _ h)

pub ending-open : (announced rest behind : ℕ) (bs : List ℕ) → length bs < rest
    → ending announced rest behind bs ≡ quiet
unfolding ending
ending-open announced rest behind bs h = rw (lt-ltb _ _ h)

-- the next item of a block, where bytes are left for it; else what is behind the block
module _ (k : Known) (rest behind item size : ℕ) (bs : List ℕ) where
  pub opened-item : eqb item over ≡ false → 0 < rest
      → opening (opened k rest behind item size) bs ≡ run_of (state item size 0 (rest - size) behind k) bs
  unfolding opened opening
  opened-item o h = rw (not-zero rest h, o)

  pub opened-none : rest ≡ 0 → opening (opened k rest behind item size) bs ≡ ending k.announced 0 behind bs
  unfolding opened
  opened-none e = rw e (ending-none k behind bs)
