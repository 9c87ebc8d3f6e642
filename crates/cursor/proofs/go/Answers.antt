-- `cursor::go` meets its contract: at most budget steps from a legal cursor, word by word.
use Rattle.cursor.proofs.PlacesLaws.{along-same}
use Rattle.cursor.proofs.GoTurn.{Going, begin-going, going_on, going-listed, gone-end, gone-done}
use Rattle.cursor.proofs.StepsLaws.{listed_le}
use Rattle.cursor.proofs.LegalLaws.{legal-position, legal-place}
use Rattle.cursor.specs.Steps.{places_in, moved_in}
use Rattle.def_cursor.specs.Cursor.{steps_in, word_at, listed_by}
use Rattle.def_cursor.specs.declared.Cursor.{Cursor}
use Rattle.ones.proofs.ListingLaws.{fitting-all}
use Rattle.range.specs.Inside.{inside_count}
use Rattle.range.specs.Steps.{step_of}
use Rattle.ones.specs.Along.{along, fitting}
use Rattle.laws.specs.Stores.{Wrote}
use Rattle.laws.proofs.Filling.{start, room_for, wrote}
use Rattle.utils.proofs.BytesLaws.{length-pair_up}
use Rattle.def_standard.specs.Range.{number_of}
use Rattle.def_wire.specs.Bytes.{words16}
use lib.ListN.{length}
use native.Mathlib.Omega.{arith}
use native.Mathlib.Nat.{one-mul}
use mathlib.Core.List.{List, ◌++◌}
use mathlib.Core.Path.{◌≡◌, ap, ◌∙◌}
use Prim.Native.Nat.{ℕ, ◌+◌, ◌-◌, ◌^◌, min, ◌≤◌, ◌<◌}
use Rattle.cursor.proofs.go.Goals as goal
use Rattle.cursor.proofs.go.Goals.{At-loop-left, Else-words-i, After-steps_in, After-min}
use Rattle.cursor.proofs.go.Goals.{After-number_at-first}

-- the words, the word at hand, and its steps from the place on
abbrev words_of : At-loop-left → List ℕ
words_of l = words16 l.args.bytes.now

abbrev word : At-loop-left → ℕ
word l = word_at (words_of l) l.loop-left.at

abbrev takes : At-loop-left → ℕ
takes l = steps_in (word l) - l.loop-left.at.place

-- the cursor after m of them, and the numbers that they add
abbrev next : At-loop-left → ℕ → Cursor
next l m = moved_in (word l) m l.loop-left.at

abbrev added : At-loop-left → ℕ → List ℕ
added l m = let g = l.args.g in
    along (step_of g.thinning) (number_of g l.loop-left.at.position)
    (places_in (word l) l.loop-left.at.place (min m (inside_count g - l.loop-left.at.position)))

-- there is a word at hand, and a place of it
has : (c : Else-words-i) → c.loop-left.at.word < length (words16 c.args.bytes.now)
has c = omega (arith, length-pair_up 256 c.args.bytes.now, c.if-words-i.false)

placed : (c : Else-words-i)
    → c.loop-left.at.place < steps_in (word_at (words16 c.args.bytes.now) c.loop-left.at)
placed c = legal-place (words16 c.args.bytes.now) c.loop-left.at c.loop-left.invariant.0.stands (has c)

steps : (c : After-steps_in) → c.steps_in.result ≡ steps_in (word_at (words16 c.args.bytes.now) c.loop-left.at)
steps c = c.steps_in.ensures ∙ ap steps_in c.word_at-w.ensures

counted : (c : After-min) → let k = c.loop-left in
    c.min.result ≡ min k.left (steps_in (word_at (words16 c.args.bytes.now) k.at) - k.at.place)
counted c =
    let k = c.loop-left in
    let steps : c.steps_in.result ≡ steps_in (word_at (words16 c.args.bytes.now) k.at) =
    c.steps_in.ensures ∙ ap steps_in c.word_at-w.ensures in
    c.min.ensures ∙ ap (λ (n : ℕ). min k.left (n - k.at.place)) steps

-- m steps that there are: where they lead, and what they list
module _ (l : At-loop-left) (m : ℕ) (has : l.loop-left.at.word < length (words_of l)) (low : m ≤ l.loop-left.left)
    (few : m ≤ takes l) where
  ends : l.loop-left.at.place + m ≤ steps_in (word l)
  ends = omega (arith, legal-place (words_of l) l.loop-left.at l.loop-left.invariant.0.stands has)

  goes : Going (words_of l) l.args.c l.args.budget (next l m) (l.loop-left.left - m)
  goes = going_on l.loop-left.invariant.0 has m low ends

  turn : listed_by l.args.g (words_of l) l.loop-left.left l.loop-left.at
      ≡ added l m ++ listed_by l.args.g (words_of l) (l.loop-left.left - m) (next l m)
  turn = going-listed l.loop-left.invariant.0 has m low ends l.args.g l.requires.g_bound

-- the numbers that the call stores are those: the step is computed once, and the places are those that are inside
asked : (c : After-number_at-first) (k : ℕ) → let l = c.loop-left in let g = c.args.g in c.min.result ≡ k
    → along c.doubled-step.result c.number_at-first.result
    (places_in c.word_at-w.result l.at.place c.min-room.result)
    ≡ along (step_of g.thinning) (number_of g l.at.position)
    (places_in (word_at (words16 c.args.bytes.now) l.at) l.at.place (min k (inside_count g - l.at.position)))
asked c k e =
    let l = c.loop-left in
    let g = c.args.g in
    let stepped : c.doubled-step.result ≡ step_of g.thinning =
    c.doubled-step.ensures ∙ (rw (one-mul (2 ^ g.thinning))) in
    let inner : c.min-room.result ≡ min c.min.result (inside_count g - l.at.position) =
    c.min-room.ensures ∙ ap (min c.min.result)
    (c.saturating_sub.ensures ∙ ap (λ (n : ℕ). n - l.at.position) c.inside_count-inside.ensures) in
    along-same l.at.place stepped c.number_at-first.ensures c.word_at-w.ensures
    (inner ∙ ap (λ (n : ℕ). min n (inside_count g - l.at.position)) e)

-- and they are stored
stored : (l : At-loop-left) (k : ℕ) (xs : List ℕ) (out' : List ℕ) (n' : ℕ) → xs ≡ added l k
    → l.loop-left.n + length (added l k) ≤ length l.loop-left.out
    → Wrote l.loop-left.out l.loop-left.n (fitting (length l.loop-left.out) l.loop-left.n xs) out' n'
    → Wrote l.loop-left.out l.loop-left.n (added l k) out' n'
stored l k xs out' n' e h w = rw (← fitting-all (length l.loop-left.out) l.loop-left.n (added l k) h, ← e) w

pub loop-left-init : goal.loop-left-init
loop-left-init c = let a = c.args in (
  begin-going c.requires.c_value,
  start (omega (
    arith,
    c.requires.budget_in_bounds,
    listed_le a.g (words16 a.bytes.now) a.budget a.c,
  )),
)

pub returns-then-words-i : goal.returns-then-words-i
returns-then-words-i c =
    gone-end c.loop-left.invariant.0 c.args.g c.loop-left.invariant.1
    (omega (arith, length-pair_up 256 c.args.bytes.now, c.if-words-i.true))

pub word_at-w-requires : goal.word_at-w-requires
word_at-w-requires c = has (goal.at.word_at-w-requires c).Else-words-i

pub overflow_sub-takes : goal.overflow_sub-takes
overflow_sub-takes c = let at = goal.at.overflow_sub-takes c in
    omega (arith, steps at.After-steps_in, placed at.Else-words-i)

pub moved-requires : goal.moved-requires
moved-requires c = let at = goal.at.moved-requires c in
    let l = at.At-loop-left in
    let w : c.word_at-w.result ≡ word l = c.word_at-w.ensures in (
      legal-position (words_of l) c.loop-left.at c.loop-left.invariant.0.stands,
      rw w (omega (arith, c.if-left-takes.true, steps at.After-steps_in, placed at.Else-words-i)),
      omega (arith, has at.Else-words-i, length-pair_up 256 c.args.bytes.now),
    )

pub returns-then-left-takes : goal.returns-then-left-takes
returns-then-left-takes c = let at = goal.at.returns-then-left-takes c in
    let l = at.At-loop-left in
    let m = c.loop-left.left in
    let has = has at.Else-words-i in
    let f : m ≤ takes l = omega (arith, c.if-left-takes.true, steps at.After-steps_in) in
    let k : c.min.result ≡ m = omega (arith, counted at.After-min, f) in
    let n : c.moved.result ≡ next l m = c.moved.ensures
    ∙ ap (λ (v : ℕ). moved_in v m c.loop-left.at) c.word_at-w.ensures in
    let s = turn l m has (omega arith) f in
    let i = c.loop-left.invariant.1 in
    let w = stored l m _ _ _ (asked at.After-number_at-first m k) (room_for (added l m) _ s i) c.put_places-n.ensures in
    rw n (gone-done (goes l m has (omega arith) f) c.args.g (wrote s w i) (omega arith))

pub moved-at-requires : goal.moved-at-requires
moved-at-requires c = let at = goal.at.moved-at-requires c in
    let l = at.At-loop-left in
    let w : c.word_at-w.result ≡ word l = c.word_at-w.ensures in (
      legal-position (words_of l) c.loop-left.at c.loop-left.invariant.0.stands,
      rw w (omega (arith, steps at.After-steps_in, placed at.Else-words-i)),
      omega (arith, has at.Else-words-i, length-pair_up 256 c.args.bytes.now),
    )

pub loop-left-smaller : goal.loop-left-smaller
loop-left-smaller c = let at = goal.at.loop-left-smaller c in
    omega (arith, placed at.Else-words-i, steps at.After-steps_in, c.if-left-takes.false)

pub loop-left-preserved : goal.loop-left-preserved
loop-left-preserved c = let at = goal.at.loop-left-preserved c in
    let l = at.At-loop-left in
    let has = has at.Else-words-i in
    let a : ℕ = c.steps_in.result - c.loop-left.at.place in
    let q : a ≡ takes l = ap (λ (n : ℕ). n - c.loop-left.at.place) (steps at.After-steps_in) in
    let k : c.min.result ≡ a = omega (arith, counted at.After-min, c.if-left-takes.false, q) in
    let n : c.moved-at.result ≡ next l a = c.moved-at.ensures
    ∙ ap (λ (v : ℕ). moved_in v a c.loop-left.at) c.word_at-w.ensures in
    let s = turn l a has c.if-left-takes.false (omega arith) in
    let i = c.loop-left.invariant.1 in
    let w = stored l a _ _ _ (asked at.After-number_at-first a k) (room_for (added l a) _ s i) c.put_places-n.ensures in
    rw n (goes l a has c.if-left-takes.false (omega arith), wrote s w i)

pub returns : goal.returns
returns c = gone-done c.loop-left.invariant.0 c.args.g c.loop-left.invariant.1 c.loop-left-test.false
