-- A block behind its first four bytes, by its kind, as far as its bytes have come. Assumes bytes below 256.
--     inner     its events, and then what is behind it
use Rattle.std.specs.Prelude.{Option, Ok, Some, None}
use Prim.Native.Nat.{ℕ, ◌+◌, ◌*◌, ◌-◌, ◌/◌, ◌%◌, ◌≤◌, ◌<◌}
use mathlib.Core.Path.{◌≡◌, refl, sym, ap, ◌∙◌}
use mathlib.Core.Bool.{true, false}
use mathlib.Core.List.{List, [], ◌∷◌, ◌++◌, map}
use native.Mathlib.Nat.{add-zero}
use native.Mathlib.Omega.{arith}
use lib.ListN.{length, take, drop, length-take, take-append-drop}
use lib.Seq.{length-take-le}
use lib.Dec.{ltb, leb, eqb}
use borrow.Author.Tests.{ltb-true, ltb-false, le-leb, lt-leb, leb-true, eqb-true, eqb-false}
use Rattle.def_wire.specs.declared.Kind.{Kind}
use Rattle.laws.proofs.Tests.{either}
use Rattle.utils.proofs.BytesLaws.{Bytes}
use Rattle.def_wire.specs.declared.Ranged.TheVariants.{Chunks, Times}
use Rattle.def_wire.specs.declared.Kind.TheVariants.{Spans, Clock, Echoes, Statistics}
use Rattle.def_wire.specs.Bytes.{be32, four}
use Rattle.def_wire.specs.Block.{type_of, block_length, time_at, kind_of, standard_rule, receipt_type, next_fit}
use Rattle.def_wire.specs.Summary.{summary_at}
use Rattle.def_standard.specs.Standard.{entries_of}
use Rattle.def_portions.specs.declared.Event.{Event}
use Rattle.def_portions.specs.declared.Event.TheVariants.{Start, Time, Summed, Entry}
use Rattle.def_portions.specs.Events.{Course, then, from, start_of, kind_events, kind_then, rule_of}
use Rattle.states.specs.declared.Known.{Known}
use Rattle.states.specs.Steps.{state, clock, skipped, whose, sums, item_fault, passed, shown_by, lone_of, opened, opened_by}
use Rattle.states.specs.Steps.{start_in, list_of}
use Rattle.followed.specs.Run.{run_of, opening, ending}
use Rattle.followed.proofs.ItemRun.{whole, then-then, item-open, item-passed}
use Rattle.followed.proofs.BehindRun.{ending-more, ending-open, opened-item, opened-none}
use Rattle.followed.proofs.ValueLaws.{held-eight, four-held, bytes_take}
use Rattle.followed.proofs.UnitsRun.{units}
use Rattle.followed.proofs.EntriesRun.{entries}
use Rattle.followed.proofs.RangedRun.{header, block_known, spans}
use Rattle.followed.proofs.SummaryRun.{summary-size}
use Rattle.followed.proofs.KindLaws.{kind-type, rle-not-times}
use Rattle.followed.proofs.CheckLaws.{rule-fine}

-- a block's last item, and then what is behind the block
last-passed : (k : Known) (item n behind : ℕ) (t x : List ℕ) → 0 < n → length t ≡ n
    → item_fault (whole item n 0 behind k t) ≡ Ok tt
    → passed (whole item n 0 behind k t) ≡ opened k 0 behind skipped 0
    → run_of (state item n 0 0 behind k) (t ++ x)
    ≡ then (shown_by (whole item n 0 behind k t)) (ending k.announced n behind (t ++ x))
last-passed k item n behind t x h e f p =
    let m : ending k.announced n behind (t ++ x) ≡ ending k.announced 0 behind x =
    ap (λ (j : ℕ). ending k.announced j behind (t ++ x)) (sym (add-zero n))
    ∙ ending-more k.announced n 0 behind t x e in
    item-passed item n 0 behind k t x h e f ∙ (rw (p, m, opened-none k 0 behind skipped 0 x refl))

-- a part of a block that shows nothing by itself
skipped-run : (k : Known) (size behind : ℕ) (bs : List ℕ)
    → opening (opened k size behind skipped size) bs ≡ ending k.announced size behind bs
unfolding passed shown_by lone_of
skipped-run k size behind bs =
    either (eqb size 0)
    (λ t. let e : size ≡ 0 = eqb-true _ _ t in opened-none k size behind skipped size bs e ∙ rw e)
    (λ f. let n : size ≡ 0 → ⊥ = eqb-false _ _ f in
    let z : size - size ≡ 0 = omega arith in
    opened-item k size behind skipped size bs refl (omega arith)
    ∙ (rw z (either (ltb (length bs) size)
    (λ t. let h : length bs < size = ltb-true _ _ t in
    item-open skipped size 0 behind k bs h ∙ sym (ending-open k.announced size behind bs h))
    (λ f. let h : size ≤ length bs = ltb-false _ _ f in
    rw (take-append-drop size bs) at
    (last-passed k skipped size behind (take size bs) (drop size bs) (omega arith) (length-take-le size bs h) refl
    refl)))))

-- its first four bytes are known
module _ (a b c d : ℕ) (y : Bytes (header a b c d)) (announced : ℕ) where
  abbrev hd : List ℕ
  hd = header a b c d

  abbrev kn : Known
  kn = block_known a b c d announced

  abbrev size : ℕ
  size = block_length hd - 4

  -- a time
  clock-run : (behind : ℕ) (bs : List ℕ) → Bytes bs → let v = hd ++ take 8 bs in
      opening (opened kn 8 behind clock 8) bs
      ≡ then (from 12 v (Time (time_at v) ∷ [])) (ending announced 8 behind bs)
  unfolding passed shown_by lone_of
  clock-run behind bs u =
      opened-item kn 8 behind clock 8 bs refl (omega arith)
      ∙ either (ltb (length bs) 8)
      (λ t. let h : length bs < 8 = ltb-true _ _ t in
      let v = hd ++ take 8 bs in
      let l : length v < 12 = omega (arith, length-take 8 bs) in
      item-open clock 8 0 behind kn bs h ∙ (rw (lt-leb 12 (length v) l, ending-open announced 8 behind bs h)))
      (λ f. let h : 8 ≤ length bs = ltb-false _ _ f in
      let t = take 8 bs in
      let e : length t ≡ 8 = length-take-le 8 bs h in
      let l : 12 ≤ length (hd ++ t) = omega arith in
      rw (le-leb 12 (length (hd ++ t)) l)
      (rw (take-append-drop 8 bs, held-eight clock refl t e (bytes_take 8 bs u)) at
      (last-passed kn clock 8 behind t (drop 8 bs) (omega arith) e refl refl)))

  clock-size : (n behind : ℕ) (bs : List ℕ) → Bytes bs → n ≡ 8 → let v = hd ++ take n bs in
      opening (opened kn n behind clock 8) bs
      ≡ then (from 12 v (Time (time_at v) ∷ [])) (ending announced n behind bs)
  clock-size n behind bs u e = rw e (clock-run behind bs u)

  started : list_of (Some (Start (type_of (four kn.block)) (block_length (four kn.block)))) ≡ start_of hd ∷ []
  started = ap (λ (v : List ℕ). start_of v ∷ []) (four-held hd refl y)

  -- its start, and then a course
  with-start : (o c : Course) (es : List Event) → o ≡ then es c
      → then (list_of (Some (Start (type_of (four kn.block)) (block_length (four kn.block))))) o
      ≡ then (start_of hd ∷ es) c
  with-start o c es r =
      ap (λ (l : List Event). then l o) started ∙ ap (then (start_of hd ∷ [])) r ∙ then-then (start_of hd ∷ []) es c

  -- behind its first four bytes: its events, and then what is behind it
  pub inner : (kd : Option Kind) → kind_of a ≡ kd → rule_of kd (block_length hd) ≡ Ok tt → (behind : ℕ) (bs : List ℕ) → Bytes bs
      → then (list_of (start_in kd (be32 hd 0))) (opening (opened_by kd kn size behind) bs)
      ≡ kind_then kd (hd ++ take size bs) (ending announced size behind bs)
  unfolding kind_events kind_then standard_rule
  inner (Some (Spans (Chunks g))) e f behind bs u =
      let q : eqb a receipt_type ≡ false = rw (kind-type a (Spans (Chunks g)) e) (rle-not-times g) in
      let l : 12 ≤ block_length hd = leb-true _ _ (rule-fine (leb 12 (block_length hd)) 12 (block_length hd) f) in
      let m = (c * 256 + d - 2) * 2 in
      let n : 8 + m * 2 ≡ size = omega arith in
      rw n at (spans a b c d y announced (Chunks g) q m behind bs u)
  inner (Some (Spans Times)) e f behind bs u =
      let q : eqb a receipt_type ≡ true = rw (kind-type a (Spans Times) e) refl in
      let l : 12 ≤ block_length hd = leb-true _ _ (rule-fine (leb 12 (block_length hd)) 12 (block_length hd) f) in
      let m = c * 256 + d - 2 in
      let n : 8 + m * 4 ≡ size = omega arith in
      rw n at (spans a b c d y announced Times q m behind bs u)
  inner (Some Clock) e f behind bs u =
      let l : block_length hd ≡ 12 = eqb-true _ _ (rule-fine (eqb (block_length hd) 12) 12 (block_length hd) f) in
      let v = hd ++ take size bs in
      with-start (opening (opened kn size behind clock 8) bs) (ending announced size behind bs)
      (from 12 v (Time (time_at v) ∷ [])) (clock-size size behind bs u (omega arith))
  inner (Some Echoes) e f behind bs u =
      let r = rule-fine (eqb (size % 12) 0) (next_fit (block_length hd)) (block_length hd) f in
      let l : size % 12 ≡ 0 = eqb-true _ _ r in
      let n : size / 12 * 12 ≡ size = omega arith in
      with-start (opening (opened kn size behind whose 4) bs) (ending announced size behind bs)
      (map Entry (entries_of (hd ++ take size bs)))
      (rw n at (units entries (size / 12) 0 kn (record {}) behind bs u))
  inner (Some Statistics) e f behind bs u =
      let l : block_length hd ≡ 40 = eqb-true _ _ (rule-fine (eqb (block_length hd) 40) 40 (block_length hd) f) in
      let v = hd ++ take size bs in
      with-start (opening (opened kn size behind sums 8) bs) (ending announced size behind bs)
      (from 40 v (Summed (summary_at v) ∷ [])) (summary-size a b c d y announced behind size bs u (omega arith))
  inner None e f behind bs u =
      with-start (opening (opened kn size behind skipped size) bs) (ending announced size behind bs) []
      (skipped-run kn size behind bs)
