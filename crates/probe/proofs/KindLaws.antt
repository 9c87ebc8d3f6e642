-- Which reply a request has: by the kind, by the asked type, and by what else is tested.
--     reading-standard .. chunk-vector     what a byte of the payload asks
--     shown-time .. portions-told          what is told of kinds 3, 2, 7 and 12, and when these are cut
--     kind_1 .. kind-other                 the reply of each kind
use Prim.Native.Nat.{ℕ, ◌+◌, ◌*◌, ◌≤◌, ◌<◌}
use mathlib.Core.Path.{◌≡◌, sym, ◌∙◌}
use mathlib.Core.Bool.{true}
use mathlib.Core.List.{List}
use lib.ListN.{length, drop}
use borrow.Author.Tests.{eq-eqb, ne_eqb, le-leb, lt-leb}
use Rattle.def_wire.specs.declared.Reading.{Reading}
use Rattle.def_wire.specs.declared.Reading.TheVariants.{Standard, Crate}
use Rattle.def_wire.specs.Bytes.{byte_at}
use Rattle.def_standard.specs.declared.Chunk.TheVariants.{Null, Skip, Run, Vector}
use Rattle.def_questions.specs.Packets.{time_asked}
use Rattle.def_questions.specs.ByNumber.{fields_by}
use Rattle.def_jobs.specs.declared.Layout.TheVariants.{Plain, Careful}
use Rattle.def_jobs.specs.Jobs.{le16, le32}
use Rattle.def_probe.specs.Requests.{told, cut, reading_first, chunk_asked, fields_told, time_told, shown_text, made_text}
use Rattle.def_probe.specs.Requests.{numbers_text, pairs_text, entries_text, typed_reply, dump_reply, list_reply, shown_reply}
use Rattle.def_probe.specs.Requests.{stretch_reply, written_reply, made_reply, parsed_reply, words_reply, marks_reply}
use Rattle.def_probe.specs.Requests.{view_reply, portions_text, portions_reply, summary_reply, numbers_reply, answer_to}
use Rattle.probe.specs.Replied.{begins_well}
use Rattle.probe.proofs.ReplyLaws.{begun}

module _ (p : List ℕ) (b : ℕ) (e : b ≡ byte_at p 0) where
  pub reading-standard : b ≡ 0 → Standard ≡ reading_first p
  reading-standard h = rw (eq-eqb _ _ (sym e ∙ h))

  pub reading-crate : (b ≡ 0 → ⊥) → Crate ≡ reading_first p
  reading-crate h = rw (ne_eqb _ _ (λ f. h (e ∙ f)))

module _ (k v : ℕ) where
  pub chunk-null : k ≡ 0 → Null ≡ chunk_asked k v
  unfolding chunk_asked
  chunk-null e = rw e

  pub chunk-skip : k ≡ 1 → Skip v ≡ chunk_asked k v
  unfolding chunk_asked
  chunk-skip e = rw e

  pub chunk-run : k ≡ 2 → Run v ≡ chunk_asked k v
  unfolding chunk_asked
  chunk-run e = rw e

  pub chunk-vector : (k ≡ 0 → ⊥) → (k ≡ 1 → ⊥) → (k ≡ 2 → ⊥) → Vector v ≡ chunk_asked k v
  unfolding chunk_asked
  chunk-vector a b d = rw (ne_eqb _ _ a, ne_eqb _ _ b, ne_eqb _ _ d)

module _ (p : List ℕ) (t : ℕ) (r : Reading) (s : List ℕ) (k : ℕ) (e : t ≡ byte_at p 5) where
  pub shown-time : t ≡ 4 → r ≡ reading_first p → s ≡ drop 6 p → k ≡ le32 p 1
      → time_told (time_asked r s k) ≡ shown_text p
  unfolding shown_text
  shown-time h f g i = rw (eq-eqb _ _ (sym e ∙ h), f, g, i)

  pub shown-fields : (t ≡ 4 → ⊥) → r ≡ reading_first p → s ≡ drop 6 p → k ≡ le32 p 1
      → fields_told (fields_by r s k t) ≡ shown_text p
  unfolding shown_text
  shown-fields h f g i = rw (ne_eqb (byte_at p 5) 4 (λ j. h (e ∙ j)), f, g, i, e)

module _ (t : ℕ) (p : List ℕ) where
  pub typed-1 : t ≡ 1 → told (numbers_text p) ≡ typed_reply t p
  unfolding typed_reply
  typed-1 e = rw e

  pub typed-2 : t ≡ 2 → told (numbers_text p) ≡ typed_reply t p
  unfolding typed_reply
  typed-2 e = rw e

  pub typed-3 : t ≡ 3 → told (pairs_text p) ≡ typed_reply t p
  unfolding typed_reply
  typed-3 e = rw e

  pub typed-5 : t ≡ 5 → told (entries_text p) ≡ typed_reply t p
  unfolding typed_reply
  typed-5 e = rw e

  pub typed-other : (t ≡ 1 → ⊥) → (t ≡ 2 → ⊥) → (t ≡ 3 → ⊥) → (t ≡ 5 → ⊥) → cut ≡ typed_reply t p
  unfolding typed_reply
  typed-other a b d e = rw (ne_eqb _ _ a, ne_eqb _ _ b, ne_eqb _ _ d, ne_eqb _ _ e)

pub list-begun : (p : List ℕ) (t : ℕ) → t ≡ byte_at p 5 → begins_well 10 p ≡ true → typed_reply t p ≡ list_reply p
unfolding list_reply
list-begun p t e h = rw e (begun 10 p (typed_reply (byte_at p 5) p) h)

module _ (p : List ℕ) where
  pub word_made : (b : ℕ) → length p ≡ 9 → b ≡ byte_at p 0 → b ≤ 3 → told (made_text p) ≡ made_reply p
  unfolding made_reply
  word_made b h e f =
      let g : byte_at p 0 ≤ 3 = rw e at f in
      rw (eq-eqb _ _ h, le-leb _ _ g)

  pub word_over : (b : ℕ) → length p ≡ 9 → b ≡ byte_at p 0 → 3 < b → cut ≡ made_reply p
  unfolding made_reply
  word_over b h e f =
      let g : 3 < byte_at p 0 = rw e at f in
      rw (eq-eqb _ _ h, lt-leb _ _ g)

  pub word-long : (length p ≡ 9 → ⊥) → cut ≡ made_reply p
  unfolding made_reply
  word-long h = rw (ne_eqb _ _ h)

module _ (p : List ℕ) where
  pub portions-short : length p < 6 → cut ≡ portions_reply p
  unfolding portions_reply
  portions-short h = rw (lt-leb _ _ h)

  module _ (n : ℕ) (h : 6 ≤ length p) (e : n ≡ le16 p 4) where
    pub portions-cut : length p < 6 + 4 * n → cut ≡ portions_reply p
    unfolding portions_reply
    portions-cut f = rw (le-leb _ _ h, lt-leb _ _ (rw e at f))

    pub portions-told : 6 + 4 * n ≤ length p → told (portions_text p) ≡ portions_reply p
    unfolding portions_reply
    portions-told f = rw (le-leb _ _ h, le-leb _ _ (rw e at f))

module _ (kind : ℕ) (p : List ℕ) where
  pub kind_1 : kind ≡ 1 → dump_reply p ≡ answer_to kind p
  unfolding answer_to
  kind_1 e = rw e

  pub kind_2 : kind ≡ 2 → list_reply p ≡ answer_to kind p
  unfolding answer_to
  kind_2 e = rw e

  pub kind_3 : kind ≡ 3 → shown_reply p ≡ answer_to kind p
  unfolding answer_to
  kind_3 e = rw e

  pub kind-4 : kind ≡ 4 → stretch_reply p ≡ answer_to kind p
  unfolding answer_to
  kind-4 e = rw e

  pub kind-5 : kind ≡ 5 → written_reply Plain p ≡ answer_to kind p
  unfolding answer_to
  kind-5 e = rw e

  pub kind-6 : kind ≡ 6 → written_reply Careful p ≡ answer_to kind p
  unfolding answer_to
  kind-6 e = rw e

  pub kind-7 : kind ≡ 7 → made_reply p ≡ answer_to kind p
  unfolding answer_to
  kind-7 e = rw e

  pub kind-8 : kind ≡ 8 → parsed_reply p ≡ answer_to kind p
  unfolding answer_to
  kind-8 e = rw e

  pub kind-9 : kind ≡ 9 → words_reply p ≡ answer_to kind p
  unfolding answer_to
  kind-9 e = rw e

  pub kind-10 : kind ≡ 10 → marks_reply p ≡ answer_to kind p
  unfolding answer_to
  kind-10 e = rw e

  pub kind-11 : kind ≡ 11 → view_reply p ≡ answer_to kind p
  unfolding answer_to
  kind-11 e = rw e

  pub kind-12 : kind ≡ 12 → portions_reply p ≡ answer_to kind p
  unfolding answer_to
  kind-12 e = rw e

  pub kind-13 : kind ≡ 13 → summary_reply p ≡ answer_to kind p
  unfolding answer_to
  kind-13 e = rw e

  pub kind-14 : kind ≡ 14 → numbers_reply p ≡ answer_to kind p
  unfolding answer_to
  kind-14 e = rw e

  pub kind-other : (kind ≡ 1 → ⊥) → (kind ≡ 2 → ⊥) → (kind ≡ 3 → ⊥) → (kind ≡ 4 → ⊥)
      → (kind ≡ 5 → ⊥) → (kind ≡ 6 → ⊥) → (kind ≡ 7 → ⊥) → (kind ≡ 8 → ⊥) → (kind ≡ 9 → ⊥)
      → (kind ≡ 10 → ⊥) → (kind ≡ 11 → ⊥) → (kind ≡ 12 → ⊥) → (kind ≡ 13 → ⊥) → (kind ≡ 14 → ⊥)
      → cut ≡ answer_to kind p
  unfolding answer_to
  kind-other a b d e f g h i j k l m n o =
      rw (
        ne_eqb _ _ a,
        ne_eqb _ _ b,
        ne_eqb _ _ d,
        ne_eqb _ _ e,
        ne_eqb _ _ f,
        ne_eqb _ _ g,
        ne_eqb _ _ h,
        ne_eqb _ _ i,
        ne_eqb _ _ j,
        ne_eqb _ _ k,
        ne_eqb _ _ l,
        ne_eqb _ _ m,
        ne_eqb _ _ n,
        ne_eqb _ _ o,
      )
