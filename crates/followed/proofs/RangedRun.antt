-- A block of types 1 to 3, behind its first four bytes, as far as its bytes have come. Assumes bytes below 256.
--     spans      its fields, then its words or times, then what is behind it
use Rattle.std.specs.Prelude.{Some}
use Prim.Native.Nat.{ℕ, ◌+◌, ◌*◌, ◌-◌, ◌%◌, ◌≤◌, ◌<◌}
use mathlib.Core.Path.{◌≡◌, refl, sym, ap, ap₂, ◌∙◌}
use mathlib.Core.Bool.{Bool, true, false, cond}
use mathlib.Core.List.{List, [], ◌∷◌, ◌++◌}
use native.Mathlib.Omega.{arith}
use lib.ListN.{length, take, drop, length-take, length-append, take-append-drop}
use lib.Seq.{length-take-le, take-add, drop_at}
use lib.Dec.{ltb, eqb}
use borrow.Author.Tests.{ltb-true, ltb-false}
use Rattle.laws.proofs.Tests.{either}
use Rattle.utils.proofs.BytesLaws.{Bytes}
use Rattle.def_wire.specs.declared.Ranged.{Ranged}
use Rattle.def_wire.specs.declared.Ranged.TheVariants.{Chunks, Times}
use Rattle.def_wire.specs.declared.Kind.TheVariants.{Spans}
use Rattle.def_wire.specs.declared.Fields.{Fields}
use Rattle.def_wire.specs.Bytes.{be32, four, eight}
use Rattle.def_wire.specs.Block.{type_of, specific_of, block_length, fields_at, receipt_type}
use Rattle.def_standard.specs.declared.Range.{Range}
use Rattle.def_standard.specs.Range.{range_of, number_of}
use Rattle.def_portions.specs.declared.Event.TheVariants.{Ranged as RangedStart}
use Rattle.def_portions.specs.Events.{then, ranged_of, kind_then}
use Rattle.states.specs.declared.Known.{Known}
use Rattle.states.specs.Steps.{fields, word, time, known, held_over, fields_in, ranged, passed, shown_by}
use Rattle.states.specs.Steps.{lone_of, opened, type_in, thinning_in}
use Rattle.range.specs.Inside.{inside_count}
use Rattle.range.proofs.GridLaws.{range-thinning}
use Rattle.followed.specs.Run.{opening, ending}
use Rattle.followed.proofs.ItemRun.{whole, item-open, item-passed}
use Rattle.followed.proofs.BehindRun.{ending-more, ending-open, opened-item}
use Rattle.followed.proofs.ValueLaws.{by-eight, held-eight, four-held, eight-held, bytes_take, bytes_drop}
use Rattle.followed.proofs.LostLaws.{listed_then, short-then, ranged-then}
use Rattle.followed.proofs.UnitsRun.{units}
use Rattle.followed.proofs.WordsRun.{StandsIn, words}
use Rattle.followed.proofs.TimesRun.{times}

-- what stands behind the fields
abbrev pub item_of : Ranged → ℕ
item_of (Chunks a) = word
item_of Times = time

abbrev pub unit_of : Ranged → ℕ
unit_of (Chunks a) = 2
unit_of Times = 4

abbrev pub is_times : Ranged → Bool
is_times (Chunks a) = false
is_times Times = true

-- what bytes behind the fields list, in a block of l bytes
listing : (r : Ranged) (g : Range) (l : ℕ) (k : Known) → StandsIn g l 0 k → (m behind : ℕ) (bs : List ℕ) → Bytes bs
    → opening (opened k (m * unit_of r) behind (item_of r) (unit_of r)) bs
    ≡ listed_then r g l (take (m * unit_of r) bs) (ending k.announced (m * unit_of r) behind bs)
listing (Chunks a) g l k s m behind bs y = units (words g l) m 0 k s behind bs y
listing Times g l k s m behind bs y = units (times g) m 0 k s.stands behind bs y

-- by what stands behind the fields
picked : (r : Ranged) (k : Known) (rest behind : ℕ)
    → cond (is_times r) (opened k rest behind time 4) (opened k rest behind word 2)
    ≡ opened k rest behind (item_of r) (unit_of r)
picked (Chunks a) k rest behind = refl
picked Times k rest behind = refl

started : {t t' l l' : ℕ} {f f' : Fields} → t ≡ t' → l ≡ l' → f ≡ f'
    → RangedStart t l f ∷ [] ≡ RangedStart t' l' f' ∷ []
started p q r = rw (p, q, r)

-- the four header bytes
module _ (a b c d : ℕ) where
  abbrev pub header : List ℕ
  header = a ∷ b ∷ c ∷ d ∷ []

  -- what is known behind them
  abbrev pub block_known : ℕ → Known
  block_known announced = known announced (be32 header 0) 0 0 0

module _ (a b c d : ℕ) (y : Bytes (header a b c d)) (announced : ℕ) where
  abbrev hd : List ℕ
  hd = header a b c d

  abbrev kn : Known
  kn = block_known a b c d announced

  -- the type, the length and the thinning, from what is known
  pub type-held : type_in kn ≡ a
  type-held = ap type_of (four-held hd refl y)

  pub length-held : block_length (four kn.block) ≡ block_length hd
  length-held = ap block_length (four-held hd refl y)

  thinning-held : thinning_in kn ≡ b % 16
  thinning-held = ap (λ (v : List ℕ). specific_of v % 16) (four-held hd refl y)

  fields-held : (t x : List ℕ) → length t ≡ 8 → Bytes t → fields_in kn (held_over fields 0 t) ≡ fields_at (hd ++ (t ++ x))
  fields-held t x =
      by-eight (λ s. Bytes s → fields_in kn (held_over fields 0 s) ≡ fields_at (hd ++ (s ++ x)))
      (λ e f g h i j k l z. let s = e ∷ f ∷ g ∷ h ∷ i ∷ j ∷ k ∷ l ∷ [] in
      ap₂ (λ (u v : List ℕ). fields_at (u ++ v)) (four-held hd refl y)
      (ap eight (held-eight fields refl s refl z) ∙ eight-held s refl z)) t

  module _ (r : Ranged) (q : eqb a receipt_type ≡ is_times r) (t x : List ℕ) (e : length t ≡ 8) (z : Bytes t) where
    abbrev f : Fields
    f = fields_at (hd ++ (t ++ x))

    abbrev rn : Known
    rn = ranged kn (held_over fields 0 t)

    fields-passed : (rest behind : ℕ)
        → passed (whole fields 8 rest behind kn t) ≡ opened rn rest behind (item_of r) (unit_of r)
    unfolding passed
    fields-passed rest behind =
        rw (ap (λ (n : ℕ). eqb n receipt_type) type-held ∙ q) (picked r rn rest behind)

    fields-shown : (rest behind : ℕ) → shown_by (whole fields 8 rest behind kn t) ≡ ranged_of (hd ++ (t ++ x)) ∷ []
    unfolding shown_by lone_of
    fields-shown rest behind = started type-held length-held (fields-held t x e z)

    fields-stand : StandsIn (range_of f) (block_length hd) 0 rn
    unfolding ranged
    fields-stand =
        let i : inside_count (range_of f) ≡ inside_count (range_of f) - 0 = omega arith in
        record {
          stands = record {
            number = ap (λ (h : Fields). number_of (range_of h) 0) (fields-held t x e z);
            left = ap (λ (h : Fields). inside_count (range_of h)) (fields-held t x e z) ∙ i;
            thinning = thinning-held ∙ sym (range-thinning f);
          };
          length = length-held;
        }

  -- its fields, then its words or times, then what is behind it
  module _ (r : Ranged) (q : eqb a receipt_type ≡ is_times r) (m behind : ℕ) where
    abbrev size : ℕ
    size = 8 + m * unit_of r

    spans-begun : (bs : List ℕ) → length bs < 8 → let v = hd ++ take size bs in
        opening (opened kn size behind fields 8) bs
        ≡ kind_then (Some (Spans r)) v (ending announced size behind bs)
    spans-begun bs h =
        let v = hd ++ take size bs in
        let l : length v < 12 = omega (arith, length-take size bs) in
        opened-item kn size behind fields 8 bs refl (omega arith)
        ∙ item-open fields 8 (size - 8) behind kn bs h
        ∙ sym (short-then v (ending announced size behind bs) r l ∙ ending-open announced size behind bs (omega arith))

    spans-whole : (t x : List ℕ) → length t ≡ 8 → Bytes t → Bytes x → let v = hd ++ (t ++ take (m * unit_of r) x) in
        opening (opened kn size behind fields 8) (t ++ x)
        ≡ kind_then (Some (Spans r)) v (ending announced size behind (t ++ x))
    unfolding ranged
    spans-whole t x e z u =
        let x' = take (m * unit_of r) x in
        let v = hd ++ (t ++ x') in
        let n : size - 8 ≡ m * unit_of r = omega arith in
        let g = range_of (fields_at v) in
        let k = ranged kn (held_over fields 0 t) in
        let l : 12 ≤ length v = omega (arith, length-append t x') in
        opened-item kn size behind fields 8 (t ++ x) refl (omega arith)
        ∙ item-passed fields 8 (size - 8) behind kn t x (omega arith) e refl
        ∙ (rw (fields-shown r q t x' e z (size - 8) behind, fields-passed r q t x' e z (size - 8) behind, n)
        (ap (then (ranged_of v ∷ [])) (listing r g (block_length v) k (fields-stand r q t x' e z) m behind x u)))
        ∙ sym (ap (kind_then (Some (Spans r)) v) (ending-more announced 8 (m * unit_of r) behind t x e)
        ∙ ranged-then v (ending announced (m * unit_of r) behind x) r x' (drop_at t x' 8 e) l)

    pub spans : (bs : List ℕ) → Bytes bs → let v = hd ++ take size bs in
        opening (opened kn size behind fields 8) bs
        ≡ kind_then (Some (Spans r)) v (ending announced size behind bs)
    spans bs u =
        either (ltb (length bs) 8)
        (λ y. spans-begun bs (ltb-true _ _ y))
        (λ n. let h : 8 ≤ length bs = ltb-false _ _ n in
        rw (take-add 8 (m * unit_of r) bs)
        (rw (take-append-drop 8 bs) at
        (spans-whole (take 8 bs) (drop 8 bs) (length-take-le 8 bs h) (bytes_take 8 bs u) (bytes_drop 8 bs u))))
