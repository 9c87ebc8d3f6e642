-- All bytes of a packet show what the reading questions answer of it. Assumes nothing of the bytes.
--     part-events     a block that is fit to be read
--     whole           a packet that is accepted, not padded, and whose blocks are fit to be read
use Rattle.std.specs.Prelude.{Option, Ok, Some, None}
use Prim.Native.Nat.{ℕ, zero, suc, ◌+◌, ◌-◌, ◌≤◌, ◌<◌}
use mathlib.Core.Path.{◌≡◌, refl, sym, ap, ap₂, ◌∙◌}
use mathlib.Core.Bool.{true, false, cond, not}
use mathlib.Core.List.{List, [], ◌∷◌, ◌++◌, append_assoc}
use native.Mathlib.Numerals.{add-one}
use native.Mathlib.Omega.{arith}
use lib.ListN.{length, drop, length-drop}
use lib.Seq.{get_or-take, length-take-le}
use lib.Dec.{ltb, leb, eqb}
use borrow.Author.Tests.{ltb-false, le-ltb, le-leb, leb-false, eq-eqb, eqb-true, not-false}
use Rattle.laws.proofs.Tests.{by-test}
use Rattle.def_wire.specs.declared.Reading.TheVariants.{Standard}
use Rattle.def_wire.specs.declared.Ranged.{Ranged}
use Rattle.def_wire.specs.declared.Ranged.TheVariants.{Chunks, Times}
use Rattle.def_wire.specs.declared.Kind.{Kind}
use Rattle.def_wire.specs.declared.Kind.TheVariants.{Spans, Clock, Echoes, Statistics}
use Rattle.def_wire.specs.Bytes.{byte_at}
use Rattle.def_wire.specs.Packet.{version_of, is_padded, announced_of, ssrc_of, padding_of, is_bad_padding, header_of, count_of}
use Rattle.def_wire.specs.Packet.{length_at, place_of, walk_from, part}
use Rattle.def_wire.specs.Block.{type_of, block_length, kind_of, standard_rule, fitness, check_of, fields_of, time_of}
use Rattle.def_wire.specs.Block.{words_at, clear_rule, word_rule}
use Rattle.def_wire.specs.Summary.{summary_of}
use Rattle.def_questions.specs.Questions.{numbers_shown, pairs_shown, entries_shown}
use Rattle.def_portions.specs.declared.Event.{Event}
use Rattle.def_portions.specs.declared.Event.TheVariants.{Header, End}
use Rattle.def_portions.specs.Events.{course, then, rule_of, head_fault, block_fault, kind_events, block_events}
use Rattle.def_portions.specs.Events.{blocks_from, course_of, lost_fault, block_then}
use Rattle.def_portions.specs.Calls.{past_fault}
use Rattle.xr.proofs.WalkLaws.{no, done-eq, count-done}
use Rattle.utils.proofs.ClearLaws.{clear-fine, fine-clear}
use Rattle.followed.specs.Whole.{view_of, fit_as, fit_of, kind_part, part_of, parts_from, whole_of}
use Rattle.followed.proofs.LostLaws.{whole-then}
use Rattle.followed.proofs.KindLaws.{kind-type}
use Rattle.followed.proofs.CheckLaws.{both-fine, rule-fine}
use Rattle.followed.proofs.BlocksRun.{length-at}

-- ---- one block

-- a block that is fit to be read: its length, and its words
fit_length : (kd : Option Kind) (v : List ℕ) → fit_as kd v ≡ Ok tt → rule_of kd (length v) ≡ Ok tt
unfolding fitness
fit_length (Some k) v f = (both-fine (standard_rule k (length v)) (word_rule k (length v) v) f).0
fit_length None v f = refl

fit-clear : (kd : Option Kind) (v : List ℕ) → fit_as kd v ≡ Ok tt → lost_fault kd v ≡ Ok tt
unfolding fitness
fit-clear (Some (Spans (Chunks a))) v f =
    let w = (both-fine (standard_rule (Spans (Chunks a)) (length v)) (clear_rule (length v) (words_at v)) f).1 in
    clear-fine (block_length v) (words_at v) (fine-clear (length v) (words_at v) w)
fit-clear (Some (Spans Times)) v f = refl
fit-clear (Some Clock) v f = refl
fit-clear (Some Echoes) v f = refl
fit-clear (Some Statistics) v f = refl
fit-clear None v f = refl

check-fine : (k : Kind) (v : List ℕ) → kind_of (type_of v) ≡ Some k → fitness Standard k v ≡ Ok tt
    → check_of Standard k v ≡ Ok tt
unfolding check_of
check-fine k v e f = rw (eq-eqb _ _ (kind-type (type_of v) k e)) f

-- twelve bytes at least, where a rule asks for them
spans-long : (g : Ranged) (v : List ℕ) → fitness Standard (Spans g) v ≡ Ok tt → leb 12 (length v) ≡ true
unfolding standard_rule
spans-long g v f = rule-fine (leb 12 (length v)) 12 (length v) (fit_length (Some (Spans g)) v f)

clock-long : (v : List ℕ) → fitness Standard Clock v ≡ Ok tt → leb 12 (length v) ≡ true
unfolding standard_rule
clock-long v f =
    let r = rule-fine (eqb (length v) 12) 12 (length v) (fit_length (Some Clock) v f) in
    let l : length v ≡ 12 = eqb-true _ _ r in
    le-leb 12 (length v) (omega arith)

-- forty bytes, where a rule asks for so many
summary-long : (v : List ℕ) → fitness Standard Statistics v ≡ Ok tt → leb 40 (length v) ≡ true
unfolding standard_rule
summary-long v f =
    let r = rule-fine (eqb (length v) 40) 40 (length v) (fit_length (Some Statistics) v f) in
    let l : length v ≡ 40 = eqb-true _ _ r in
    le-leb 40 (length v) (omega arith)

kind-events : (kd : Option Kind) (v : List ℕ) → kind_of (type_of v) ≡ kd → fit_as kd v ≡ Ok tt → kind_events kd v ≡ kind_part kd v
unfolding kind_events kind_part fields_of time_of summary_of numbers_shown pairs_shown entries_shown
kind-events (Some (Spans (Chunks a))) v e f = rw (check-fine (Spans (Chunks a)) v e f, spans-long (Chunks a) v f)
kind-events (Some (Spans Times)) v e f = rw (check-fine (Spans Times) v e f, spans-long Times v f)
kind-events (Some Clock) v e f = rw (check-fine Clock v e f, clock-long v f)
kind-events (Some Echoes) v e f = rw (check-fine Echoes v e f)
kind-events (Some Statistics) v e f = rw (check-fine Statistics v e f, summary-long v f)
kind-events None v e f = refl

-- a block that is fit to be read
abbrev pub Fit : List ℕ → Type 0
Fit v = fit_of v ≡ Ok tt

pub part-events : (v : List ℕ) → Fit v → block_events v ≡ part_of v
part-events v f = kind-events (kind_of (type_of v)) v refl f

-- ---- the blocks

-- a walk counts on
walk_up : (s : List ℕ) (stop fuel at m n : ℕ) → walk_from s stop fuel at m ≡ Ok n → m ≤ n
unfolding walk_from
walk_up s stop zero at m n e = let z : m ≡ n = done-eq e in omega arith
walk_up s stop (suc fuel) at m n e =
    by-test (leb stop at) (λ t d. let z : m ≡ n = done-eq d in omega arith)
    (λ o. by-test (ltb (stop - at) (length_at s at)) (λ t d. no d)
    (λ t d. let z : m + 1 ≤ n = walk_up s stop fuel (at + length_at s at) (m + 1) n d in omega arith)) e

module _ (s : List ℕ) where
  -- a view has the length that its block announces, and the type
  view-length : (at : ℕ) → at + length_at s at ≤ length s → length (part s at (length_at s at)) ≡ length_at s at
  view-length at h = length-take-le (length_at s at) (drop at s) (omega (arith, length-drop at s))

  view-type : (at : ℕ) → type_of (part s at (length_at s at)) ≡ type_of (drop at s)
  view-type at = get_or-take (length_at s at) (drop at s) 0 0 (omega arith)

  fit-fault : (at : ℕ) → at + length_at s at ≤ length s → Fit (part s at (length_at s at))
      → block_fault (length s - at) (drop at s) ≡ Ok tt
  unfolding block_fault
  fit-fault at h f =
      let l : block_length (drop at s) ≤ length s - at = omega (arith, length-at s at) in
      rw (le-leb _ _ l)
      (sym (ap₂ (λ (t n : ℕ). rule_of (kind_of t) n) (view-type at) (view-length at h ∙ length-at s at))
      ∙ fit_length (kind_of (type_of (part s at (length_at s at)))) (part s at (length_at s at)) f)

  -- the blocks from block k on, up to the packet's end
  whole-blocks : (fuel k n : ℕ) → walk_from s (length s) fuel (place_of s k) k ≡ Ok n → place_of s k ≤ length s
      → length s < place_of s k + fuel → ((i : ℕ) → k ≤ i → i < n → Fit (view_of s i))
      → blocks_from s (length s) fuel (place_of s k) ≡ course (parts_from s k (n - k) ++ (End ∷ [])) (Ok tt)
  unfolding walk_from blocks_from parts_from place_of
  whole-blocks zero k n w l h f = absurd (omega arith)
  whole-blocks (suc fuel) k n w l h f =
      let at = place_of s k in
      rw (le-ltb (length s) at l)
      (by-test (leb (length s) at)
      (λ t d. let z : k ≡ n = done-eq d in
      let r : n - k ≡ 0 = omega arith in
      rw (t, r))
      (λ o. by-test (ltb (length s - at) (length_at s at)) (λ _ d. no d)
      (λ t d. let a : at < length s = leb-false _ _ o in
      let b : length_at s at ≤ length s - at = ltb-false _ _ t in
      let c : k + 1 ≤ n = walk_up s (length s) fuel (at + length_at s at) (k + 1) n d in
      let r : n - k ≡ suc (n - suc k) = omega arith in
      let e : at + 4 ≤ length s = omega arith in
      let g : Fit (view_of s k) = f k (omega arith) (omega arith) in
      let ih = whole-blocks fuel (suc k) n (rw (add-one k) at d) (omega arith) (omega arith)
      (λ i j. f i (omega arith)) in
      rw (o, le-ltb (length s) (at + 4) e, fit-fault at (omega arith) g, r)
      (ap (block_then (view_of s k)) ih
      ∙ whole-then (view_of s k) (course (parts_from s (suc k) (n - suc k) ++ (End ∷ [])) (Ok tt))
      (kind_of (type_of (view_of s k))) (omega (arith, view-length at (omega arith)))
      (fit-clear (kind_of (type_of (view_of s k))) (view_of s k) g)
      ∙ ap₂ (λ (x y : List Event). course (x ++ y) (Ok tt)) (part-events (view_of s k) g) refl
      ∙ ap (λ (es : List Event). course es (Ok tt))
      (sym (append_assoc (part_of (view_of s k)) (parts_from s (suc k) (n - suc k)) (End ∷ []))))))
      w)

-- ---- the packet

-- an accepted header without padding is good, and the blocks end with the packet
record Accepted (s : List ℕ) (stop : ℕ) : Type 0 where
  pub good : head_fault s ≡ Ok tt
  pub all : announced_of s ≡ length s
  pub stops : stop ≡ length s
  pub least : 8 ≤ length s

accepted : (s : List ℕ) (stop : ℕ) → is_padded s ≡ false → header_of Standard s ≡ Ok stop → Accepted s stop
unfolding header_of head_fault
accepted s stop p =
    by-test (ltb (length s) 8) (λ _ e. no e)
    (λ h. by-test (not (eqb (version_of s) 2)) (λ _ e. no e)
    (λ v. by-test (not (eqb (byte_at s 1) 207)) (λ _ e. no e)
    (λ t. by-test (not (eqb (announced_of s) (length s))) (λ _ e. no e)
    (λ l. by-test (cond (is_padded s) (is_bad_padding (padding_of s) (length s)) false) (λ _ e. no e)
    (λ b e.
    let a : announced_of s ≡ length s = eqb-true _ _ (not-false _ l) in
    let g : 8 ≤ length s = ltb-false _ _ h in
    let i : 8 ≤ announced_of s = omega arith in
    record {
      good = rw (le-leb _ _ i, not-false (eqb (version_of s) 2) v, not-false (eqb (byte_at s 1) 207) t, p);
      all = a;
      stops = sym (done-eq e) ∙ rw p;
      least = g;
    })))))

-- all bytes of an accepted packet whose blocks are fit to be read
pub whole : (s : List ℕ) (n : ℕ) → count_of Standard s ≡ Ok n → is_padded s ≡ false
    → ((k : ℕ) → k < n → fit_of (view_of s k) ≡ Ok tt)
    → course_of s ≡ course (whole_of s n) (Ok tt)
unfolding course_of place_of
whole s n c p f =
    let d = count-done Standard s n c in
    let a = accepted s d.stop p d.header in
    let g = a.least in
    let w : walk_from s (length s) (length s) 8 0 ≡ Ok n = rw a.stops at d.walk in
    let z : n - 0 ≡ n = omega arith in
    rw (le-ltb (length s) 4 (omega arith), a.good, le-ltb (length s) 8 g, a.all)
    (ap (then (Header (length s) (ssrc_of s) ∷ []))
    (rw z at (whole-blocks s (length s) 0 n w g (omega arith) (λ i j. f i))))

-- such a packet has no more bytes than it announces
pub whole-within : (s : List ℕ) (n : ℕ) → count_of Standard s ≡ Ok n → is_padded s ≡ false → past_fault s ≡ Ok tt
unfolding past_fault
whole-within s n c p =
    let d = count-done Standard s n c in
    let a = accepted s d.stop p d.header in
    let g = a.least in
    let e : length s ≤ announced_of s = omega (arith, a.all) in
    rw (le-ltb (length s) 4 (omega arith), a.good, le-leb _ _ e)
