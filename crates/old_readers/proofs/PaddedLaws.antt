-- The crate reading of a written packet with padding, or without blocks: it is refused. Assumes nothing.
--     crate-padded     6 at the padding's last word, which the crate takes for a block's header
--     crate-empty      1: 8 bytes are too few
use Rattle.std.specs.Prelude.{Ok, Err}
use Prim.Native.Nat.{ℕ, zero, suc, ◌+◌, ◌*◌, ◌-◌, ◌/◌, ◌%◌, ◌≤◌, ◌<◌}
use mathlib.Core.Path.{◌≡◌, refl, sym, ap, ◌∙◌}
use mathlib.Core.List.{List, [], ◌∷◌, ◌++◌}
use native.Mathlib.Nat.{zero-add}
use native.Mathlib.Omega.{arith}
use lib.ListN.{length, drop, replicate}
use lib.Seq.{drop-drop, drop-append_seam}
use borrow.Author.Tests.{lt-ltb, lt-leb}
use Rattle.def_refusals.specs.declared.Refusal.TheVariants.{TooShort, BlockTooLong}
use Rattle.def_wire.specs.declared.Reading.TheVariants.{Crate}
use Rattle.def_wire.specs.Packet.{length_at, header_of, walk_from, count_of}
use Rattle.def_jobs.specs.declared.Layout.{Layout}
use Rattle.def_jobs.specs.Jobs.{Job, sender_of, asked_padding}
use Rattle.def_jobs.specs.Layout.{padding_bytes}
use Rattle.utils.proofs.BytesLaws.{be16-same, same_drop}
use Rattle.written.proofs.Lists.{Each}
use Rattle.written.proofs.WalkLaws.{joined, length-joined, walk-next, walk-blocks}
use Rattle.written.proofs.RecordsLaws.{Body, Fit}
use Rattle.written.proofs.HeaderLaws.{length-around, header-around}
use Rattle.written.proofs.Shows.{blocks_of, whole-blocks, header-padding, packet-around, small-around, announced, stands}

length-here : (s : List ℕ) (at : ℕ) → length_at s at ≡ length_at (drop at s) 0
length-here s at =
    ap (λ (n : ℕ). (n + 1) * 4) (sym (be16-same (drop at s) 2 s (at + 2) (same_drop 2 at s 2)))

-- m + 1 words, zeros but for the last byte
module _ (s : List ℕ) (stop last : ℕ) (some : 0 < last) where
  walk-padding : (m at n f : ℕ) → drop at s ≡ replicate (4 * m + 3) 0 ++ (last ∷ []) → stop ≡ at + 4 * suc m
      → m < f → walk_from s stop f at n ≡ Err (BlockTooLong ((last + 1) * 4) 4)
  unfolding walk_from
  walk-padding m at n zero e t h = absurd (omega arith)
  walk-padding zero at n (suc f) e t h =
      let l : length_at s at ≡ (last + 1) * 4 =
      length-here s at ∙ ap (λ (v : List ℕ). length_at v 0) e ∙ ap (λ (x : ℕ). (x + 1) * 4) (zero-add last) in
      let d : stop - at ≡ 4 = omega arith in
      let a : at < stop = omega arith in
      let k : 4 < (last + 1) * 4 = omega arith in
      rw (lt-leb _ _ a, l, d, lt-ltb _ _ k)
  walk-padding (suc m) at n (suc f) e t h =
      let i : 4 * suc m + 3 ≡ suc (suc (suc (suc (4 * m + 3)))) = omega arith in
      let g : drop at s ≡ 0 ∷ 0 ∷ 0 ∷ 0 ∷ (replicate (4 * m + 3) 0 ++ (last ∷ [])) = rw i at e in
      let l : length_at s at ≡ 4 = length-here s at ∙ ap (λ (v : List ℕ). length_at v 0) g in
      let j : at + length_at s at ≡ at + 4 = omega arith in
      let q : at + length_at s at ≤ stop = omega arith in
      walk-next s stop at n (suc f) f refl q
      ∙ walk-padding m (at + length_at s at) (n + 1) f
      (rw j (sym (drop-drop 4 at s) ∙ ap (drop 4) g)) (omega arith) (omega arith)

module _ (layout : Layout) (h : Job) (js : List Job) (s : List ℕ) (w : Fit layout h js s) (bh : Body h)
    (b : Each Body js) where
  abbrev bs : List (List ℕ)
  bs = blocks_of layout js

  sized : length s ≡ 8 + length (joined bs) + asked_padding h
  sized =
      ap length (packet-around layout h js s w bh b) ∙ length-around (asked_padding h) (sender_of h) (joined bs)

  -- padding has a last byte, behind whole words of zeros and three more
  padded : (n : ℕ) → n % 4 ≡ 0 → 0 < n → padding_bytes n ≡ replicate (4 * ((n - 1) / 4) + 3) 0 ++ (n ∷ [])
  padded zero e p = absurd (omega arith)
  padded (suc n) e p = let i : n ≡ 4 * (n / 4) + 3 = omega arith in
      let j : suc n - 1 ≡ n = omega arith in rw (j, ← i)

  module _ (some : 0 < asked_padding h) where
    pub crate-padded : count_of Crate s ≡ Err (BlockTooLong ((asked_padding h + 1) * 4) 4)
    unfolding count_of
    crate-padded =
        let n = asked_padding h in
        let e = packet-around layout h js s w bh b in
        let p = header-padding h w.header in
        let a = announced layout h js s w bh b in
        let v = stands layout h js s w bh b in
        let l : 12 ≤ length s = omega (arith, sized, p) in
        let c : header_of Crate s ≡ Ok (length s) =
        rw e
        (header-around Crate n (sender_of h) (joined bs) p (whole-blocks layout js w.blocks b)
        (small-around layout h js s w bh b) (rw e at l)) in
        let j : 4 * length bs ≤ length (joined bs) = length-joined bs a in
        rw c
        (walk-blocks s (padding_bytes n) bs (length s) 8 0 (length s) (length s - length bs) v a (omega (arith, sized))
        (omega (arith, sized))
        ∙ walk-padding s (length s) n some ((n - 1) / 4) (8 + length (joined bs)) (0 + length bs)
        (length s - length bs)
        (sym (drop-drop (length (joined bs)) 8 s) ∙ ap (drop (length (joined bs))) v
        ∙ drop-append_seam (joined bs) (padding_bytes n) ∙ padded n p some)
        (omega (arith, sized, p)) (omega (arith, sized, p)))

pub crate-empty : (layout : Layout) (h : Job) (s : List ℕ) (w : Fit layout h [] s) → Body h → asked_padding h ≡ 0
    → count_of Crate s ≡ Err (TooShort 12 8)
unfolding count_of header_of
crate-empty layout h s w bh z =
    let l : length s ≡ 8 = omega (arith, sized layout h [] s w bh tt, z) in rw l
