-- A written packet shows what its records ask. Assumes nothing.
--     layout-shows      of the layout of records that 12 and 14 let pass
--     written-shows     of a packet that is written
use Rattle.std.specs.Prelude.{Ok}
use Prim.Native.Nat.{ℕ, ◌+◌, ◌%◌, ◌≤◌, ◌<◌}
use mathlib.Core.Path.{◌≡◌, refl, ap, subst, ◌∙◌}
use mathlib.Core.Bool.{true}
use mathlib.Core.List.{List, [], ◌∷◌, ◌++◌, map}
use native.Mathlib.Numerals.{add-one}
use native.Mathlib.Omega.{arith}
use lib.ListN.{length, get_or, drop, length-append, length-map, get_or-map}
use lib.Dec.{eqb}
use borrow.Author.Tests.{eqb-true}
use Rattle.laws.proofs.Tests.{and-true}
use Rattle.def_wire.specs.declared.Reading.TheVariants.{Standard}
use Rattle.def_wire.specs.Packet.{header_of, count_of, view_of}
use Rattle.def_wire.specs.Block.{rle_of, ranged_of, kind_of}
use Rattle.def_jobs.specs.declared.Layout.{Layout}
use Rattle.def_jobs.specs.Jobs.{Job, cut_job, jobs_of, header_kind, sender_of, asked_padding, is_header_job}
use Rattle.def_jobs.specs.Jobs.{jobs_fault, asked_of}
use Rattle.def_jobs.specs.Layout.{padding_bytes, block_bytes, blocks_bytes, layout_of}
use Rattle.def_jobs.specs.Writing.{max_bytes, packet_of, shown_in}
use Rattle.utils.proofs.BytesLaws.{Bytes}
use Rattle.written.specs.Shows.{blocks_in, Shows}
use Rattle.written.proofs.Lists.{Each, each_at}
use Rattle.written.proofs.WalkLaws.{joined, Announces, count-blocks, view-block}
use Rattle.written.proofs.RecordsLaws.{Body, bodies, Good, layout_fault, Fit, fit, written, some-record}
use Rattle.written.proofs.JobLaws.{le32-lt, block-laid}
use Rattle.written.proofs.HeaderLaws.{around, length-around, sender-around, header-around, stop-around}

-- ---- the blocks of good records

module _ (layout : Layout) where
  abbrev pub blocks_of : List Job → List (List ℕ)
  blocks_of js = map (block_bytes layout) js

  pub joined-blocks : (js : List Job) → blocks_bytes layout js ≡ joined (blocks_of js)
  unfolding blocks_bytes
  joined-blocks [] = refl
  joined-blocks (j ∷ js) = ap (λ (l : List ℕ). block_bytes layout j ++ l) (joined-blocks js)

  pub whole-blocks : (js : List Job) → Each Good js → Each Body js → length (joined (blocks_of js)) % 4 ≡ 0
  whole-blocks [] g b = refl
  whole-blocks (j ∷ js) g b =
      let w : length (block_bytes layout j) % 4 ≡ 0 = (block-laid layout j g.0 b.0).whole in
      omega (arith, length-append (block_bytes layout j) (joined (blocks_of js)), whole-blocks js g.1 b.1)

  announce-blocks : (js : List Job) → Each Good js → Each Body js → length (joined (blocks_of js)) ≤ max_bytes
      → Each Announces (blocks_of js)
  announce-blocks [] g b h = tt
  announce-blocks (j ∷ js) g b h =
      let l = length-append (block_bytes layout j) (joined (blocks_of js)) in
      ((block-laid layout j g.0 b.0).announces (omega arith), announce-blocks js g.1 b.1 (omega arith))

  pub block_at : (js : List Job) (k : ℕ) → get_or (blocks_of js) k [] ≡ block_bytes layout (get_or js k cut_job)
  unfolding block_bytes kind_of ranged_of rle_of
  block_at js k = get_or-map (block_bytes layout) js k cut_job

pub header-padding : (h : Job) → is_header_job h ≡ true → asked_padding h % 4 ≡ 0
unfolding is_header_job
header-padding h e =
    let p = and-true (eqb h.kind header_kind) _ e in
    let q = and-true (eqb (length h.body) 6) _ p.1 in
    let r = and-true (eqb (asked_padding h % 4) 0) _ q.1 in
    eqb-true _ _ r.0

-- ---- the packet

module _ (layout : Layout) (h : Job) (js : List Job) (s : List ℕ) (w : Fit layout h js s) (bh : Body h)
    (b : Each Body js) where
  abbrev bs : List (List ℕ)
  bs = blocks_of layout js

  abbrev n : ℕ
  n = asked_padding h

  pub packet-around : s ≡ around n (sender_of h) (joined bs)
  unfolding layout_of
  packet-around = w.laid ∙ ap (around n (sender_of h)) (joined-blocks layout js)

  pub small-around : length (around n (sender_of h) (joined bs)) ≤ max_bytes
  small-around = rw packet-around at w.small

  pub announced : Each Announces bs
  announced =
      let l = length-around n (sender_of h) (joined bs) in
      announce-blocks layout js w.blocks b (omega (arith, small-around))

  pub stands : drop 8 s ≡ joined bs ++ padding_bytes n
  stands = ap (drop 8) packet-around

  header-done : header_of Standard s ≡ Ok (8 + length (joined bs))
  header-done =
      let l = length-around n (sender_of h) (joined bs) in
      rw packet-around
      (header-around Standard n (sender_of h) (joined bs) (header-padding h w.header)
      (whole-blocks layout js w.blocks b) small-around (omega arith)
      ∙ ap Ok (stop-around n (sender_of h) (joined bs)))

  count-done : count_of Standard s ≡ Ok (length bs)
  count-done = count-blocks Standard s (padding_bytes n) bs (8 + length (joined bs)) header-done refl announced stands

  module _ (k : ℕ) (l : k < length js) where
    abbrev j : Job
    j = get_or js k cut_job

    pub good-at : Good j
    good-at = each_at Good cut_job js k w.blocks l

    pub view-at : view_of Standard s k ≡ Ok (block_bytes layout j)
    view-at =
        view-block s (padding_bytes n) bs k count-done announced stands (rw (length-map js (block_bytes layout)) l)
        ∙ ap Ok (block_at layout js k)

    shown-at : shown_in Standard s k ≡ Ok (asked_of j)
    shown-at = rw view-at (block-laid layout j good-at (each_at Body cut_job js k b l)).shows

  packet-shows : Shows layout (h ∷ js) s
  packet-shows =
      let e : blocks_in (h ∷ js) ≡ length js = omega arith in
      record {
        laid = w.laid;
        counted = rw e (count-done ∙ ap Ok (length-map js (block_bytes layout)));
        sender = rw packet-around (sender-around n (sender_of h) (joined bs) (le32-lt h.body bh 0));
        asks = λ k l. rw add-one (good-at k (omega (arith, l, e)));
        viewed = λ k l. rw add-one (view-at k (omega (arith, l, e)));
        shows = λ k l. rw add-one (shown-at k (omega (arith, l, e)));
      }

-- records that 12 and 14 let pass show what they ask, also where 15 does not
pub layout-shows : (layout : Layout) (list : List ℕ) → Bytes list → jobs_fault 0 (jobs_of list) ≡ Ok tt
    → layout_fault layout (jobs_of list) ≡ Ok tt → Shows layout (jobs_of list) (layout_of layout (jobs_of list))
layout-shows layout list b = by_first (jobs_of list) (some-record list) (bodies list b)
  where
    by_first : (js : List Job) → (js ≡ [] → ⊥) → Each Body js → jobs_fault 0 js ≡ Ok tt → layout_fault layout js ≡ Ok tt
        → Shows layout js (layout_of layout js)
    by_first [] k b f g = absurd (k refl)
    by_first (h ∷ js) k b f g =
        packet-shows layout h js (layout_of layout (h ∷ js)) (fit layout h js f g) b.0 b.1

-- whatever is written shows what its records ask
pub written-shows : (layout : Layout) (list s : List ℕ) → Bytes list → packet_of layout list ≡ Ok s
    → Shows layout (jobs_of list) s
written-shows layout list s b e =
    let w = written layout list s e in
    subst (Shows layout (jobs_of list)) w.2 (layout-shows layout list b w.0 w.1)
