-- The walk over blocks that stand one behind the other, each of which announces its own length. Assumes nothing.
--     joined, Announces     blocks in a row; a block whose length field says how long it is
--     Stands                from a place on stand the blocks, and then the rest
--     walk-blocks           the walk passes them all, up to any stop behind them
--     place-blocks          and comes to each
use Rattle.std.specs.Prelude.{Ok}
use Prim.Native.Nat.{ℕ, zero, suc, ◌+◌, ◌*◌, ◌-◌, ◌≤◌, ◌<◌}
use mathlib.Core.Path.{◌≡◌, refl, sym, ap, ◌∙◌}
use mathlib.Core.List.{List, [], ◌∷◌, ◌++◌, append_assoc}
use native.Mathlib.Nat.{add-zero, zero-add}
use native.Mathlib.Omega.{arith}
use lib.ListN.{length, get_or, drop, length-append, length-drop, get_or-append}
use lib.Seq.{drop-cons, drop-drop, drop-append_seam, take-append_seam}
use borrow.Author.Tests.{lt-ltb, le-ltb, le-leb, lt-leb}
use Rattle.def_wire.specs.declared.Reading.{Reading}
use Rattle.def_wire.specs.declared.Reading.TheVariants.{Standard}
use Rattle.def_wire.specs.Bytes.{be16}
use Rattle.def_wire.specs.Packet.{length_at, place_of, walk_from, part, header_of, count_of, size_at, locate, view_of}
use Rattle.utils.proofs.BytesLaws.{Same, be16-same, same_drop}
use Rattle.written.proofs.Lists.{Each, each_at}

-- ---- one turn of the walk

module _ (s : List ℕ) (stop at n : ℕ) where
  pub walk_end : (f : ℕ) → stop ≤ at → walk_from s stop f at n ≡ Ok n
  unfolding walk_from
  walk_end zero h = refl
  walk_end (suc f) h = rw (le-leb _ _ h)

  pub walk-next : (g f : ℕ) → g ≡ suc f → at + length_at s at ≤ stop
      → walk_from s stop g at n ≡ walk_from s stop f (at + length_at s at) (n + 1)
  unfolding walk_from
  walk-next g f e h =
      let a : at < stop = omega arith in
      let b : length_at s at ≤ stop - at = omega arith in
      rw (e, lt-leb _ _ a, le-ltb _ _ b)

-- ---- blocks in a row

abbrev pub joined : List (List ℕ) → List ℕ
joined [] = []
joined (b ∷ bs) = b ++ joined bs

-- a block's length field says how long it is
abbrev pub Announces : List ℕ → Type 0
Announces b = length_at b 0 ≡ length b

-- from a place on stand the blocks, and then the rest
abbrev pub Stands : List ℕ → ℕ → List (List ℕ) → List ℕ → Type 0
Stands s at bs rest = drop at s ≡ joined bs ++ rest

same-front : (n : ℕ) (b rest : List ℕ) (i : ℕ) → i + n ≤ length b → Same n (b ++ rest) i b i
same-front n b rest i h q l = get_or-append b rest 0 (i + q) (omega arith)

-- a block that announces its length does so where it stands
pub length-stands : (s : List ℕ) (at : ℕ) (b rest : List ℕ) → Announces b → drop at s ≡ b ++ rest
    → length_at s at ≡ length b
length-stands s at b rest a e =
    let h : 0 + 2 + 2 ≤ length b = omega arith in
    let x : be16 s (at + 2) ≡ be16 (drop at s) 2 = sym (be16-same (drop at s) 2 s (at + 2) (same_drop 2 at s 2)) in
    let y : be16 (b ++ rest) 2 ≡ be16 b 2 = be16-same (b ++ rest) 2 b 2 (same-front 2 b rest 2 h) in
    ap (λ (n : ℕ). (n + 1) * 4) (x ∙ ap (λ (l : List ℕ). be16 l 2) e ∙ y) ∙ a

-- behind it stand the others
stands-next : (s : List ℕ) (at : ℕ) (b : List ℕ) (bs : List (List ℕ)) (rest : List ℕ) → Announces b
    → Stands s at (b ∷ bs) rest → Stands s (at + length_at s at) bs rest
stands-next s at b bs rest a e =
    let f : drop at s ≡ b ++ (joined bs ++ rest) = e ∙ append_assoc b (joined bs) rest in
    rw (length-stands s at b (joined bs ++ rest) a f)
    (sym (drop-drop (length b) at s) ∙ ap (drop (length b)) f ∙ drop-append_seam b (joined bs ++ rest))

-- no more blocks than bytes
pub length-joined : (bs : List (List ℕ)) → Each Announces bs → 4 * length bs ≤ length (joined bs)
length-joined [] a = omega arith
length-joined (b ∷ bs) a = omega (arith, length-append b (joined bs), a.0, length-joined bs a.1)

-- ---- the walk and the places

module _ (s rest : List ℕ) where
  -- it passes the blocks, up to any stop behind them, with fuel for each
  pub walk-blocks : (bs : List (List ℕ)) (stop at n g f : ℕ) → Stands s at bs rest → Each Announces bs
      → g ≡ length bs + f → at + length (joined bs) ≤ stop
      → walk_from s stop g at n ≡ walk_from s stop f (at + length (joined bs)) (n + length bs)
  walk-blocks [] stop at n g f e a k h =
      let i : g ≡ f = omega arith in rw (i, add-zero at, add-zero n)
  walk-blocks (b ∷ bs) stop at n g f e a k h =
      let l : length_at s at ≡ length b = length-stands s at b (joined bs ++ rest) a.0
      (e ∙ append_assoc b (joined bs) rest) in
      let m : length (b ++ joined bs) ≡ length b + length (joined bs) = length-append b (joined bs) in
      let p : at + length_at s at + length (joined bs) ≡ at + length (b ++ joined bs) = omega arith in
      let q : n + 1 + length bs ≡ n + suc (length bs) = omega arith in
      walk-next s stop at n g (length bs + f) (omega arith) (omega arith)
      ∙ walk-blocks bs stop (at + length_at s at) (n + 1) (length bs + f) f (stands-next s at b bs rest a.0 e) a.1
      refl (omega arith)
      ∙ rw (p, q)

  module _ (bs : List (List ℕ)) (a : Each Announces bs) (e : Stands s 8 bs rest) where
    -- from block k on
    pub place-blocks : (k : ℕ) → k ≤ length bs → Stands s (place_of s k) (drop k bs) rest
    unfolding place_of
    place-blocks zero h = e
    place-blocks (suc k) h =
        let b = get_or bs k [] in
        let i : Stands s (place_of s k) (b ∷ drop (suc k) bs) rest =
        rw (drop-cons bs k [] h) at (place-blocks k (omega arith)) in
        stands-next s (place_of s k) b (drop (suc k) bs) rest (each_at Announces [] bs k a h) i

    module _ (k : ℕ) (h : k < length bs) where
      -- block k there, and behind it the others
      pub block-stands : drop (place_of s k) s ≡ get_or bs k [] ++ (joined (drop (suc k) bs) ++ rest)
      block-stands =
          rw (drop-cons bs k [] h) at (place-blocks k (omega arith))
          ∙ append_assoc (get_or bs k []) (joined (drop (suc k) bs)) rest

      pub block-length : length_at s (place_of s k) ≡ length (get_or bs k [])
      block-length =
          length-stands s (place_of s k) (get_or bs k []) (joined (drop (suc k) bs) ++ rest)
          (each_at Announces [] bs k a h) block-stands

      -- its own bytes
      pub block-part : part s (place_of s k) (length_at s (place_of s k)) ≡ get_or bs k []
      block-part =
          rw (block-length, block-stands) (take-append_seam (get_or bs k []) (joined (drop (suc k) bs) ++ rest))

-- ---- the count and the views

-- a packet whose blocks end where its header says
pub count-blocks : (r : Reading) (s rest : List ℕ) (bs : List (List ℕ)) (stop : ℕ) → header_of r s ≡ Ok stop
    → stop ≡ 8 + length (joined bs) → Each Announces bs → Stands s 8 bs rest → count_of r s ≡ Ok (length bs)
unfolding count_of
count-blocks r s rest bs stop h e a w =
    let j : 4 * length bs ≤ length (joined bs) = length-joined bs a in
    let d : length s - 8 ≡ length (joined bs ++ rest) = sym (length-drop 8 s) ∙ ap length w in
    let l : length (joined bs ++ rest) ≡ length (joined bs) + length rest = length-append (joined bs) rest in
    rw h
    (walk-blocks s rest bs stop 8 0 (length s) (length s - length bs) w a (omega arith) (omega arith)
    ∙ walk_end s stop (8 + length (joined bs)) (0 + length bs) (length s - length bs) (omega arith) ∙ rw zero-add)

pub locate-block : (r : Reading) (s : List ℕ) (n k : ℕ) → count_of r s ≡ Ok n → k < n
    → locate r s k ≡ Ok (place_of s k, size_at r s (place_of s k))
unfolding locate
locate-block r s n k c h = rw (c, lt-ltb _ _ h)

pub view-block : (s rest : List ℕ) (bs : List (List ℕ)) (k : ℕ) → count_of Standard s ≡ Ok (length bs)
    → Each Announces bs → Stands s 8 bs rest → k < length bs → view_of Standard s k ≡ Ok (get_or bs k [])
view-block s rest bs k c a e h =
    rw (locate-block Standard s (length bs) k c h) (ap Ok (block-part s rest bs a e k h))
