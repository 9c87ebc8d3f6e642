-- Blocks, readings and the whole: what the parts of the dump come to.
--     ranged-chunks, ranged-times, clock-contents, echo-contents     what a block of a kind shows
--     line-of-block, kind-shown, kind-bare                           a block's line, and what stands behind it
--     reading-blocks, reading-refused, dump-long, dump-both          one reading, and the whole
--     place_after, blocks-next, blocks_end                           the blocks, one after the other
use Rattle.std.specs.Prelude.{Option, Ok, Err, Some, None}
use Prim.Native.Nat.{ℕ, suc, ◌+◌, ◌*◌, ◌-◌, ◌≤◌, ◌<◌}
use mathlib.Core.Path.{◌≡◌, refl, sym, ap, ◌∙◌}
use mathlib.Core.List.{List, [], ◌++◌, append-nil}
use native.Mathlib.Numerals.{add-one}
use native.Mathlib.Omega.{arith}
use lib.ListN.{length, get_or}
use borrow.Author.Tests.{lt-ltb, le-ltb}
use Rattle.def_refusals.specs.Answers.{Or}
use Rattle.def_refusals.specs.declared.Refusal.{Refusal}
use Rattle.def_wire.specs.declared.Reading.{Reading}
use Rattle.def_wire.specs.declared.Reading.TheVariants.{Standard, Crate}
use Rattle.def_wire.specs.declared.Rle.{Rle}
use Rattle.def_wire.specs.declared.Ranged.{Ranged}
use Rattle.def_wire.specs.declared.Ranged.TheVariants.{Chunks, Times}
use Rattle.def_wire.specs.declared.Kind.{Kind}
use Rattle.def_wire.specs.declared.Kind.TheVariants.{Spans, Clock, Echoes, Statistics}
use Rattle.def_wire.specs.Packet.{place_of, length_at, next_place, view_from, count_of}
use Rattle.def_wire.specs.Block.{header_data, type_of, block_length, kind_in, check_of, fields_of, time_of}
use Rattle.def_wire.specs.Summary.{summary_of}
use Rattle.xr.proofs.WalkLaws.{place-next, count-done, counted-within}
use Rattle.reader.proofs.PlacesLaws.{next-within}
use Rattle.def_questions.specs.Questions.{numbers_shown, pairs_shown, entries_shown}
use Rattle.def_refusals.specs.Numbers.{numbered}
use Rattle.def_text.specs.Numerals.{ascii, decimal_within}
use Rattle.def_dump.specs.Lines.{refused_line, block_line, numbers_line, pairs_line, entries_line}
use Rattle.def_dump.specs.Dump.{list_or, fields_or, time_or, contents_of, unless_unfit, block_text, blocks_text}
use Rattle.def_dump.specs.Dump.{summary_or, counted_text, reading_text, longest_dumped, dump_text}

module _ (r : Reading) (v : List ℕ) where
  pub ranged-chunks : (g : Ranged) (a : Rle) → g ≡ Chunks a
      → fields_or (fields_of r g v) ++ list_or numbers_line (numbers_shown r a v) ≡ contents_of r (Spans g) v
  unfolding contents_of
  ranged-chunks g a e = rw e

  pub ranged-times : (g : Ranged) → g ≡ Times
      → fields_or (fields_of r g v) ++ list_or pairs_line (pairs_shown r v) ≡ contents_of r (Spans g) v
  unfolding contents_of
  ranged-times g e = rw e

  pub clock-contents : (k : Kind) → k ≡ Clock → time_or (time_of r v) ≡ contents_of r k v
  unfolding contents_of
  clock-contents k e = rw e

  pub echo-contents : (k : Kind) → k ≡ Echoes → list_or entries_line (entries_shown r v) ≡ contents_of r k v
  unfolding contents_of
  echo-contents k e = rw e

  pub statistics-contents : (k : Kind) → k ≡ Statistics → summary_or (summary_of r v) ≡ contents_of r k v
  unfolding contents_of
  statistics-contents k e = rw e

  -- a block's line is that of its header bytes h
  module _ (i : ℕ) (h : List ℕ) (t l u : ℕ) (e : h ≡ header_data v) (et : t ≡ get_or h 0 0)
      (el : l ≡ (get_or h 2 0 * 256 + get_or h 3 0 + 1) * 4) (eu : u ≡ get_or h 0 0) where
    line-is : block_line i t l ≡ block_line i (type_of v) (block_length v)
    line-is = rw (et, el, e)

    pub kind-shown : (o : Option Kind) (k : Kind) → o ≡ Some k → o ≡ kind_in r u
        → block_line i t l ++ unless_unfit (check_of r k v) (contents_of r k v) ≡ block_text r i v
    unfolding block_text
    kind-shown o k a b =
        let f : kind_in r (type_of v) ≡ Some k = (rw (eu, e) at (sym b)) ∙ a in
        rw (line-is, f)

    pub kind-bare : (o : Option Kind) → o ≡ None → o ≡ kind_in r u → block_line i t l ≡ block_text r i v
    unfolding block_text
    kind-bare o a b =
        let f : kind_in r (type_of v) ≡ None = (rw (eu, e) at (sym b)) ∙ a in
        rw (line-is, f) (sym (append-nil (block_line i (type_of v) (block_length v))))

-- from one block to the next, of a packet that is accepted with n blocks
module _ (r : Reading) (s : List ℕ) (n k : ℕ) where
  pub place_after : (at : ℕ) → count_of r s ≡ Ok n → k < n → at ≡ place_of s k → next_place s at ≡ place_of s (k + 1)
  place_after at c h e =
      let w : place_of s k + length_at s (place_of s k) ≤ length s = counted-within r s n k (count-done r s n c) h in
      let i : place_of s k < length s = omega arith in
      rw e (sym (next-within s (place_of s k) (length_at s (place_of s k)) i refl) ∙ sym (place-next s k))

  pub blocks-next : (at : ℕ) (v : List ℕ) → k < n → at ≡ place_of s k → v ≡ view_from r s at
      → blocks_text r s k (n - k) ≡ block_text r k v ++ blocks_text r s (k + 1) (n - (k + 1))
  unfolding blocks_text
  blocks-next at v h e f =
      let j : n - k ≡ suc (n - (k + 1)) = omega arith in
      let w : view_from r s (place_of s k) ≡ v = sym (f ∙ ap (view_from r s) e) in
      rw (j, w, add-one)

  pub blocks_end : n ≤ k → blocks_text r s k (n - k) ≡ []
  unfolding blocks_text
  blocks_end h = let j : n - k ≡ 0 = omega arith in rw j

-- one reading, and the whole
module _ (r : Reading) (s : List ℕ) (a : Or ℕ) (e : a ≡ count_of r s) where
  pub reading-blocks : (n : ℕ) → a ≡ Ok n → blocks_text r s 0 n ≡ reading_text r s
  unfolding reading_text
  reading-blocks n d = ap (counted_text r s) (sym d ∙ e)

  pub reading-refused : (x : Refusal) → a ≡ Err x → refused_line x ≡ reading_text r s
  unfolding reading_text
  reading-refused x d = ap (counted_text r s) (sym d ∙ e)

module _ (s : List ℕ) where
  pub dump-long : longest_dumped < length s → ascii "refused 11\n" ≡ dump_text s
  unfolding numbered decimal_within refused_line dump_text
  dump-long h = rw (lt-ltb _ _ h)

  pub dump-both : length s ≤ longest_dumped
      → ascii "reading standard\n" ++ reading_text Standard s ++ ascii "reading crate\n" ++ reading_text Crate s
      ≡ dump_text s
  unfolding dump_text
  dump-both h = rw (le-ltb _ _ h)
