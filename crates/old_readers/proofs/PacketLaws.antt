-- The crate reading of a carefully written packet. Assumes nothing.
--     crate-count      without padding it has a block for each record but the first
--     crate-view       and block k's view is the block and all the blocks behind it
--     block-some       no block is empty
use Rattle.std.specs.Prelude.{Ok}
use Prim.Native.Nat.{ℕ, zero, suc, ◌+◌, ◌-◌, ◌≤◌, ◌<◌}
use mathlib.Core.Path.{◌≡◌, sym, ap, ◌∙◌}
use mathlib.Core.List.{List, [], ◌∷◌, ◌++◌, append-nil}
use native.Mathlib.Omega.{arith}
use lib.ListN.{length, get_or, drop, length-map, length-drop}
use lib.Seq.{take_all}
use Rattle.def_wire.specs.declared.Reading.TheVariants.{Crate}
use Rattle.def_wire.specs.Packet.{place_of, header_of, count_of, view_of}
use Rattle.def_jobs.specs.declared.Layout.TheVariants.{Careful}
use Rattle.def_jobs.specs.Jobs.{Job, cut_job, sender_of, asked_padding}
use Rattle.def_jobs.specs.Layout.{padding_bytes, block_bytes, blocks_bytes}
use Rattle.written.proofs.Lists.{Each, each_at}
use Rattle.written.proofs.WalkLaws.{joined, Announces, length-joined, count-blocks, locate-block, block-stands}
use Rattle.written.proofs.RecordsLaws.{Body, Fit}
use Rattle.written.proofs.HeaderLaws.{length-around, header-around}
use Rattle.written.proofs.Shows.{blocks_of, joined-blocks, whole-blocks, block_at, header-padding, packet-around}
use Rattle.written.proofs.Shows.{small-around, announced, stands}

-- the blocks behind block k
behind-blocks : (js : List Job) (k : ℕ) → joined (drop k (blocks_of Careful js)) ≡ blocks_bytes Careful (drop k js)
behind-blocks js zero = sym (joined-blocks Careful js)
behind-blocks [] (suc k) = sym (joined-blocks Careful [])
behind-blocks (j ∷ js) (suc k) = behind-blocks js k

module _ (h : Job) (js : List Job) (s : List ℕ) (w : Fit Careful h js s) (bh : Body h) (b : Each Body js) where
  abbrev bs : List (List ℕ)
  bs = blocks_of Careful js

  -- no block is empty
  pub block-some : (k : ℕ) → k < length js → 0 < length (block_bytes Careful (get_or js k cut_job))
  block-some k l =
      let m : k < length bs = rw (length-map js (block_bytes Careful)) l in
      let a = each_at Announces [] bs k (announced Careful h js s w bh b) m in
      let n : 0 < length (get_or bs k []) = omega (arith, a) in
      rw (block_at Careful js k) at n

  -- ---- without padding

  module _ (z : asked_padding h ≡ 0) (some : 0 < length js) where
    least : 12 ≤ length s
    least =
        let l = length-around (asked_padding h) (sender_of h) (joined bs) in
        let j = length-joined bs (announced Careful h js s w bh b) in
        omega (arith, ap length (packet-around Careful h js s w bh b), l, j, length-map js (block_bytes Careful))

    ends : length s ≡ 8 + length (joined bs)
    ends =
        ap length (packet-around Careful h js s w bh b) ∙ length-around (asked_padding h) (sender_of h) (joined bs)
        ∙ omega (arith, z)

    crate-header : header_of Crate s ≡ Ok (length s)
    crate-header =
        rw (packet-around Careful h js s w bh b)
        (header-around Crate (asked_padding h) (sender_of h) (joined bs) (header-padding h w.header)
        (whole-blocks Careful js w.blocks b) (small-around Careful h js s w bh b)
        (rw (packet-around Careful h js s w bh b) at least))

    behind : drop 8 s ≡ joined bs ++ []
    behind =
        stands Careful h js s w bh b ∙ ap (λ (n : ℕ). joined bs ++ padding_bytes n) z

    pub crate-count : count_of Crate s ≡ Ok (length js)
    crate-count =
        count-blocks Crate s [] bs (length s) crate-header ends (announced Careful h js s w bh b) behind
        ∙ ap Ok (length-map js (block_bytes Careful))

    module _ (k : ℕ) (l : k < length js) where
      -- block k, and behind it the others
      pub crate-stands : drop (place_of s k) s
          ≡ block_bytes Careful (get_or js k cut_job) ++ blocks_bytes Careful (drop (suc k) js)
      crate-stands =
          let m : k < length bs = rw (length-map js (block_bytes Careful)) l in
          block-stands s [] bs (announced Careful h js s w bh b) behind k m
          ∙ rw (append-nil (joined (drop (suc k) bs)), behind-blocks js (suc k), block_at Careful js k)

      pub crate-view : view_of Crate s k
          ≡ Ok (block_bytes Careful (get_or js k cut_job) ++ blocks_bytes Careful (drop (suc k) js))
      crate-view =
          rw (locate-block Crate s (length js) k crate-count l)
          (ap Ok
          (take_all (length s - place_of s k) (drop (place_of s k) s) (omega (arith, length-drop (place_of s k) s))
          ∙ crate-stands))
