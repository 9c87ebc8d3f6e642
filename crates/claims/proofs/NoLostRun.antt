-- Nothing that is made here holds a run of ones of no length. Assumes nothing.
--     words-clear, packets-clear, chunk-clear     the claims
use Rattle.std.specs.Prelude.{Ok, Err, Some}
use Prim.Native.Nat.{ℕ, ◌+◌, ◌≤◌, ◌<◌}
use mathlib.Core.Path.{◌≡◌, refl, sym, ap, subst, ◌∙◌}
use mathlib.Core.Bool.{false}
use mathlib.Core.List.{List, []}
use native.Mathlib.Omega.{arith}
use lib.ListN.{length, take}
use lib.Dec.{ltb, leb, eqb}
use borrow.Author.Tests.{le-ltb, ltb-true, ltb-false, leb-true, eqb-false}
use Rattle.def_wire.specs.declared.Fields.{Fields}
use Rattle.laws.proofs.Tests.{either, by-test}
use Rattle.def_refusals.specs.declared.Refusal.TheVariants.{NoBlock}
use Rattle.def_refusals.specs.Answers.{on_shown, Or}
use Rattle.def_wire.specs.declared.Reading.TheVariants.{Standard}
use Rattle.def_wire.specs.declared.Rle.{Rle}
use Rattle.def_wire.specs.declared.Ranged.TheVariants.{Chunks}
use Rattle.def_wire.specs.declared.Kind.TheVariants.{Spans}
use Rattle.def_wire.specs.Bytes.{pair_up, two, words16}
use Rattle.def_wire.specs.Packet.{locate, view_of}
use Rattle.def_wire.specs.Block.{type_of, words_at, kind_type, kind_of, standard_rule, lost_run, has, check_of, fields_of}
use Rattle.def_standard.specs.declared.Chunk.{Chunk}
use Rattle.def_standard.specs.declared.Chunk.TheVariants.{Null, Skip, Run, Vector}
use Rattle.def_standard.specs.Chunks.{within, word_of, bytes_of_made, word_bytes}
use Rattle.def_questions.specs.Questions.{numbers_shown}
use Rattle.def_jobs.specs.declared.Layout.{Layout}
use Rattle.def_jobs.specs.Shown.{Record, reported, on_fields, record_as, record_of}
use Rattle.def_jobs.specs.Jobs.{Job, jobs_of, asked_of}
use Rattle.def_jobs.specs.Writing.{packet_of}
use Rattle.def_marks.specs.Marks.{marks_asked}
use Rattle.utils.proofs.BytesLaws.{words16-two}
use Rattle.followed.proofs.CheckLaws.{both-fine}
use Rattle.utils.proofs.ClearLaws.{fit-chunks, fine-clear, has-nil, has-behind}
use Rattle.marked.proofs.FaultLaws.{fault-fine}
use Rattle.heard.proofs.ValuesLaws.{words-clear as clear-words}
use Rattle.written.specs.Shows.{record_at, blocks_in, Shows}
use Rattle.written.proofs.RecordsLaws.{not-shown}
use Rattle.written.proofs.Shows.{written-shows}
use Rattle.claims.specs.NoLostRun.{WordsClear, PacketsClear, ChunkClear}
use Rattle.claims.proofs.Taken.{listed-taken}
use Rattle.claims.proofs.FitLaws.{no-fault, fields-fine}
use Rattle.claims.proofs.Marks.{fine-asked}

-- ---- words from marks

pub words-clear : WordsClear
words-clear ms out out' n p =
    let e = fine-asked ms (take n out') (listed-taken out out' n (marks_asked ms) p) in
    subst (λ (ws : List ℕ). has lost_run ws ≡ false) e.1 (clear-words ms (fault-fine ms e.0).1)

-- ---- both layouts

-- a block that the standard shows is fit to be read, and so its words are clear
module _ (a : Rle) (v : List ℕ) where
  check-clear : check_of Standard (Spans (Chunks a)) v ≡ Ok tt → has lost_run (words_at v) ≡ false
  unfolding check_of
  check-clear =
      by-test (eqb (type_of v) (kind_type (Spans (Chunks a))))
      (λ _ e. fine-clear (length v) (words_at v)
      (both-fine (standard_rule (Spans (Chunks a)) (length v)) _ (sym (fit-chunks v a) ∙ e)).1) (λ _ e. no-fault e)

  fields-clear : (x : Or Fields) (r : Record) → fields_of Standard (Chunks a) v ≡ x
      → on_fields x (λ f. on_shown (numbers_shown Standard a v) (λ l. Ok (reported a f l))) ≡ Ok r
      → has lost_run (words_at v) ≡ false
  fields-clear (Ok f) r p e = check-clear (fields-fine Standard v (Chunks a) f p).0
  fields-clear (Err z) r p e = not-shown e

  record-clear : (r : Record) → kind_of (type_of v) ≡ Some (Spans (Chunks a)) → record_of Standard v ≡ Ok r
      → has lost_run (words_at v) ≡ false
  unfolding record_of
  record-clear r t e =
      let d : record_as (Some (Spans (Chunks a))) Standard v ≡ Ok r = rw t at e in
      fields-clear (fields_of Standard (Chunks a) v) r refl d

module _ (layout : Layout) (js : List Job) (s : List ℕ) (h : Shows layout js s) (k : ℕ) (v : List ℕ)
    (e : view_of Standard s k ≡ Ok v) where
  -- it is the block of a record
  beyond : blocks_in js ≤ k → view_of Standard s k ≡ Err (NoBlock (blocks_in js))
  unfolding locate
  beyond l = rw (h.counted, le-ltb _ _ l)

  inside : k < blocks_in js
  inside =
      either (ltb k (blocks_in js)) (λ t. ltb-true _ _ t)
      (λ f. not-shown (sym (beyond (ltb-false _ _ f)) ∙ e))

  shown-clear : (a : Rle) → kind_of (type_of v) ≡ Some (Spans (Chunks a)) → has lost_run (words_at v) ≡ false
  shown-clear a t = record-clear a v (asked_of (record_at js (k + 1))) t (rw e at (h.shows k inside))

pub packets-clear : PacketsClear
packets-clear layout list out out' n b p k v a e t =
    shown-clear layout (jobs_of list) (take n out')
    (written-shows layout list (take n out') b (listed-taken out out' n (packet_of layout list) p)) k v e a t

-- ---- one chunk word

-- a word that is made has 16 bits, and is another
abbrev Other : ℕ → Type 0
Other w = (w < 65536) × (w ≡ lost_run → ⊥)

-- one that is made of a value within its limit
limited : (value limit x w : ℕ) → (value ≤ limit → Other x) → within value limit x ≡ Ok w → Other w
limited value limit x w o =
    by-test (leb value limit) (λ t e. let i : x ≡ w = cc in subst Other i (o (leb-true _ _ t)))
    (λ _ e. absurd (let z : ◌≡◌ {A = ℕ} 0 1 = cc in omega arith))

word-other : (c : Chunk) (w : ℕ) → word_of c ≡ Ok w → Other w
unfolding word_of
word-other Null w e =
    let i : 0 ≡ w = cc in (omega arith, λ d. absurd (omega arith))
word-other (Skip n) w e = limited n 16383 n w (λ l. (omega arith, λ d. omega arith)) e
word-other (Run n) w e =
    by-test (eqb n 0) (λ _ d. absurd (let z : ◌≡◌ {A = ℕ} 0 1 = cc in omega arith))
    (λ f d. let some : n ≡ 0 → ⊥ = eqb-false n 0 f in
    limited n 16383 (16384 + n) w (λ l. (omega arith, λ q. some (omega arith))) d) e
word-other (Vector x) w e = limited x 32767 (32768 + x) w (λ l. (omega arith, λ d. omega arith)) e

made-clear : (m : Or ℕ) (l : List ℕ) → ((w : ℕ) → m ≡ Ok w → Other w) → bytes_of_made m ≡ Ok l
    → has lost_run (words16 l) ≡ false
unfolding pair_up
made-clear (Ok w) l o e =
    let i : two w ≡ l = cc in
    let other = o w refl in
    ap (λ (s : List ℕ). has lost_run (words16 s)) (sym i) ∙ ap (has lost_run) (words16-two w [] other.0)
    ∙ has-behind lost_run w [] other.1 ∙ has-nil lost_run
made-clear (Err x) l o e = not-shown e

pub chunk-clear : ChunkClear
chunk-clear c out out' n p =
    made-clear (word_of c) (take n out') (word-other c) (listed-taken out out' n (word_bytes c) p)
