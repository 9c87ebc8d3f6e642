-- One block, from its first byte on, as far as its bytes have come. Assumes bytes below 256.
--     block_run     a refusal, or its events and then what is behind it
use Rattle.std.specs.Prelude.{Ok, Err}
use Prim.Native.Nat.{ℕ, ◌+◌, ◌-◌, ◌≤◌}
use mathlib.Core.Path.{◌≡◌, refl, ap, ap₂, ◌∙◌}
use mathlib.Core.List.{List, [], ◌∷◌, ◌++◌}
use native.Mathlib.Omega.{arith}
use lib.ListN.{length, take, drop}
use lib.Seq.{take-append-add}
use Rattle.def_refusals.specs.Answers.{Or}
use Rattle.utils.proofs.BytesLaws.{Bytes}
use Rattle.def_refusals.specs.declared.Refusal.{Refusal}
use Rattle.def_wire.specs.Bytes.{four}
use Rattle.def_wire.specs.Block.{type_of, block_length, kind_of}
use Rattle.def_portions.specs.Events.{Course, course, then, unless, block_fault, block_then}
use Rattle.states.specs.declared.Known.{Known}
use Rattle.states.specs.Steps.{state, block, known, held_over, low32, item_fault, passed, shown_by, lone_of, in_block}
use Rattle.states.specs.Steps.{opened_by, start_in, list_of}
use Rattle.followed.specs.Run.{run_of, opening, ending}
use Rattle.followed.proofs.ItemRun.{whole, item-passed, item_refused}
use Rattle.followed.proofs.ValueLaws.{held_low, held_back, bytes_take, bytes_drop}
use Rattle.followed.proofs.CheckLaws.{good-block}
use Rattle.followed.proofs.RangedRun.{header}
use Rattle.followed.proofs.KindRun.{inner}

-- one block, from its first byte on
module _ (k : Known) (behind a b c d : ℕ) (y : Bytes (header a b c d)) (x : List ℕ) (u : Bytes x) where
  abbrev hd : List ℕ
  hd = header a b c d

  -- how many bytes are left behind its first four
  abbrev size : ℕ
  size = block_length hd - 4

  pub back : four (low32 (held_over block 0 hd)) ≡ hd
  back = held_back block refl hd refl y

  pub fault-held : item_fault (whole block 4 0 behind k hd) ≡ block_fault (behind + 4) hd
  fault-held = ap (block_fault (behind + 4)) back

  -- the start and what is behind it, by the first four bytes as a number and as a list
  abbrev onward : ℕ → List ℕ → Course
  onward w v =
      let kd = kind_of (type_of v) in
      let n = block_length v - 4 in
      then (list_of (start_in kd w)) (opening (opened_by kd (known k.announced w 0 0 0) n (behind - n)) x)

  block_refused : (r : Refusal) → block_fault (behind + 4) hd ≡ Err r
      → run_of (state block 4 0 0 behind k) (hd ++ x) ≡ course [] (Err r)
  block_refused r f = item_refused block 4 0 behind k hd x (omega arith) refl r (fault-held ∙ f)

  block-passed : block_fault (behind + 4) hd ≡ Ok tt
      → run_of (state block 4 0 0 behind k) (hd ++ x)
      ≡ block_then (hd ++ take size x) (ending k.announced size (behind - size) x)
  unfolding passed shown_by lone_of in_block
  block-passed f =
      item-passed block 4 0 behind k hd x (omega arith) refl (fault-held ∙ f)
      ∙ ap₂ onward (held_low block refl hd refl y) back
      ∙ inner a b c d y k.announced (kind_of a) refl (good-block (behind + 4) hd f).rule (behind - size) x u

  abbrev v : List ℕ
  v = hd ++ x

  -- the block's own bytes
  own : take (block_length v) v ≡ hd ++ take size x
  own =
      let n : block_length v ≡ 4 + size = omega arith in
      ap (λ (m : ℕ). take m v) n ∙ take-append-add hd x size

  block-whole : (f : Or (Unit {0})) → block_fault (behind + 4) v ≡ f
      → run_of (state block 4 0 0 behind k) v
      ≡ unless f (block_then (take (block_length v) v) (ending k.announced size (behind - size) x))
  unfolding block_fault
  block-whole (Ok _) e = block-passed e ∙ (rw own)
  block-whole (Err r) e = block_refused r e

pub block_run : (k : Known) (behind : ℕ) (v : List ℕ) → 4 ≤ length v → Bytes v → (f : Or (Unit {0}))
    → block_fault (behind + 4) v ≡ f → let n = block_length v - 4 in
    run_of (state block 4 0 0 behind k) v
    ≡ unless f (block_then (take (block_length v) v) (ending k.announced n (behind - n) (drop 4 v)))
block_run k behind [] h y f e = absurd (omega arith)
block_run k behind (a ∷ []) h y f e = absurd (omega arith)
block_run k behind (a ∷ b ∷ []) h y f e = absurd (omega arith)
block_run k behind (a ∷ b ∷ c ∷ []) h y f e = absurd (omega arith)
block_run k behind (a ∷ b ∷ c ∷ d ∷ x) h y f e =
    let v = a ∷ b ∷ c ∷ d ∷ x in block-whole k behind a b c d (bytes_take 4 v y) x (bytes_drop 4 v y) f e
