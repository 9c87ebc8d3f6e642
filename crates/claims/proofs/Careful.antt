-- A carefully written packet misleads no reader that keeps the old reading. Assumes nothing.
--     not-misled, fifteen, unread     the claims
use Rattle.std.specs.Prelude.{Ok, Err}
use Prim.Native.Nat.{ℕ, zero, suc, ◌+◌, ◌*◌, ◌≤◌, ◌<◌}
use mathlib.Core.Path.{◌≡◌, refl, sym, ap, subst, ◌∙◌}
use mathlib.Core.Bool.{true, false}
use mathlib.Core.List.{List, [], ◌∷◌, ◌++◌}
use native.Mathlib.Omega.{arith}
use lib.ListN.{length, get_or, take, drop, length-append, get_or-append}
use lib.Dec.{ltb, eqb}
use borrow.Author.Tests.{le-ltb, ltb-true, ltb-false, eqb-true, eqb-false}
use Rattle.laws.proofs.Tests.{either, by-test, true≢false}
use Rattle.def_refusals.specs.declared.Refusal.{Refusal}
use Rattle.def_refusals.specs.declared.Refusal.TheVariants.{TooShort, BlockTooLong, NoBlock, Misleads}
use Rattle.def_refusals.specs.Answers.{on_fine, Or}
use Rattle.def_wire.specs.declared.Reading.TheVariants.{Crate}
use Rattle.def_wire.specs.Packet.{count_of, locate, view_of}
use Rattle.def_questions.specs.Packets.{fields_asked, numbers_asked, pairs_asked, entries_asked, time_asked, summary_asked}
use Rattle.def_jobs.specs.declared.Layout.TheVariants.{Careful}
use Rattle.def_jobs.specs.Jobs.{Job, cut_job, asked_padding, jobs_of, jobs_fault, asked_of}
use Rattle.def_jobs.specs.Layout.{block_bytes, blocks_bytes, layout_of}
use Rattle.def_jobs.specs.Writing.{misleads, misleading_from, size_fault, write_fault, packet_of}
use Rattle.written.specs.Shows.{record_at, blocks_in}
use Rattle.written.proofs.Lists.{Each, each_at}
use Rattle.written.proofs.RecordsLaws.{Body, bodies, Fit, fit, written, some-record, on_fine_lem}
use Rattle.written.proofs.RecordsLaws.{not-shown}
use Rattle.written.proofs.JobLaws.{block-laid}
use Rattle.written.proofs.Shows.{view-at, good-at}
use Rattle.old_readers.proofs.PacketLaws.{crate-count, crate-view, block-some}
use Rattle.old_readers.proofs.PaddedLaws.{crate-padded, crate-empty}
use Rattle.old_readers.proofs.FaultLaws.{refused-nobody}
use Rattle.claims.specs.Careful.{AsStandard, AsShown, NotMisled, Judged, FirstMisleading, Fifteen, Unread}
use Rattle.claims.proofs.Taken.{listed-taken}
use Rattle.claims.proofs.RoundTrip.{not-bare}
use Rattle.claims.proofs.AsStandard.{Both, as-standard, as-shown, no-misleading}

-- ---- a block that the crate refuses

module _ (s : List ℕ) (k : ℕ) (x : Refusal) (e : view_of Crate s k ≡ Err x) where
  unseen : AsStandard s k
  unfolding fields_asked numbers_asked pairs_asked time_asked entries_asked summary_asked
  unseen =
      record {
        fields = λ g f p. absurd (let q = rw e at p in let z : ◌≡◌ {A = ℕ} 0 1 = cc in omega arith);
        numbers = λ a l p. absurd (let q = rw e at p in let z : ◌≡◌ {A = ℕ} 0 1 = cc in omega arith);
        pairs = λ l p. absurd (let q = rw e at p in let z : ◌≡◌ {A = ℕ} 0 1 = cc in omega arith);
        time = λ t p. absurd (let q = rw e at p in let z : ◌≡◌ {A = ℕ} 0 1 = cc in omega arith);
        entries = λ l p. absurd (let q = rw e at p in let z : ◌≡◌ {A = ℕ} 0 1 = cc in omega arith);
        summary = λ x p. absurd (let q = rw e at p in let z : ◌≡◌ {A = ℕ} 0 1 = cc in omega arith);
      }

  unshown : AsShown s k
  unshown x p = not-shown (rw e at p)

  unseen-misleads : misleads s k ≡ false
  unseen-misleads = rw e

view-refused : (s : List ℕ) (k : ℕ) (x : Refusal) → count_of Crate s ≡ Err x → view_of Crate s k ≡ Err x
unfolding locate
view-refused s k x e = rw e

view-beyond : (s : List ℕ) (k n : ℕ) → count_of Crate s ≡ Ok n → n ≤ k → view_of Crate s k ≡ Err (NoBlock n)
unfolding locate
view-beyond s k n e h = rw (e, le-ltb _ _ h)

-- ---- the first block that misleads

module _ (s : List ℕ) where
  none-misleads : (n k : ℕ) → misleading_from s k n ≡ Ok tt → (i : ℕ) → k ≤ i → i < k + n → misleads s i ≡ false
  unfolding misleading_from
  none-misleads zero k e i a b = absurd (omega arith)
  none-misleads (suc n) k e i a b =
      by-test (misleads s k) (λ _ d. absurd (let z : ◌≡◌ {A = ℕ} 0 1 = cc in omega arith))
      (λ f d.
      either (eqb i k) (λ t. ap (misleads s) (eqb-true _ _ t) ∙ f)
      (λ t. let u : i ≡ k → ⊥ = eqb-false _ _ t in none-misleads n (suc k) d i (omega (arith, u)) (omega arith))) e

  first-misleads : (n k m : ℕ) → misleading_from s k n ≡ Err (Misleads m)
      → (misleads s m ≡ true) × ((i : ℕ) → k ≤ i → i < m → misleads s i ≡ false)
  unfolding misleading_from
  first-misleads zero k m e = absurd (let z : ◌≡◌ {A = ℕ} 0 1 = cc in omega arith)
  first-misleads (suc n) k m e =
      by-test (misleads s k)
      (λ t d. let q : k ≡ m = cc in (rw (← q) t, λ i a b. absurd (omega arith)))
      (λ f d. let p = first-misleads n (suc k) m d in (
        p.0,
        λ i a b. either (eqb i k) (λ t. ap (misleads s) (eqb-true _ _ t) ∙ f)
            (λ t. let u : i ≡ k → ⊥ = eqb-false _ _ t in p.1 i (omega (arith, u)) b),
      )) e

  misleads-first : (n k m : ℕ) → k ≤ m → m < k + n → misleads s m ≡ true
      → ((i : ℕ) → k ≤ i → i < m → misleads s i ≡ false) → misleading_from s k n ≡ Err (Misleads m)
  unfolding misleading_from
  misleads-first zero k m a b t f = absurd (omega arith)
  misleads-first (suc n) k m a b t f =
      either (eqb k m)
      (λ q. let r : k ≡ m = eqb-true _ _ q in
      rw (ap (misleads s) r ∙ t, r))
      (λ q. let u : k ≡ m → ⊥ = eqb-false _ _ q in
      let v : k < m = omega (arith, u) in
      rw (f k (omega arith) v) (misleads-first n (suc k) m v (omega arith) t (λ i c d. f i (omega arith) d)))

-- ---- the packet of good records

module _ (h : Job) (js : List Job) (s : List ℕ) (w : Fit Careful h js s) (bh : Body h) (b : Each Body js) where
  -- both readings of block k
  both_read : asked_padding h ≡ 0 → (k : ℕ) → k < length js → Both s k
  both_read z k l =
      let some : 0 < length js = omega arith in
      let j = get_or js k cut_job in
      let rest = blocks_bytes Careful (drop (suc k) js) in
      let g = good-at Careful h js s w bh b k l in
      let long = block-some h js s w bh b k l in
      record {
        view = block_bytes Careful j ++ rest;
        own = block_bytes Careful j;
        asked = asked_of j;
        crate = crate-view h js s w bh b z some k l;
        standard = view-at Careful h js s w bh b k l;
        type = get_or-append (block_bytes Careful j) rest 0 0 long;
        longer = omega (arith, length-append (block_bytes Careful j) rest);
        shows = (block-laid Careful j g (each_at Body cut_job js k b l)).shows;
        some = not-bare j g;
      }

-- the crate's view of what no record asks for
abbrev view-none : (h : Job) (js : List Job) (s : List ℕ) → Fit Careful h js s → Body h → Each Body js
    → asked_padding h ≡ 0 → (k : ℕ) → length js ≤ k → Refusal
view-none h [] s w bh b z k l = TooShort 12 8
view-none h (j ∷ js) s w bh b z k l = NoBlock (length (j ∷ js))

view-beneath : (h : Job) (js : List Job) (s : List ℕ) (w : Fit Careful h js s) (bh : Body h) (b : Each Body js)
    (z : asked_padding h ≡ 0) (k : ℕ) (l : length js ≤ k) → view_of Crate s k ≡ Err (view-none h js s w bh b z k l)
view-beneath h [] s w bh b z k l = view-refused s k (TooShort 12 8) (crate-empty Careful h s w bh z)
view-beneath h (j ∷ js) s w bh b z k l =
    view-beyond s k (length (j ∷ js)) (crate-count h (j ∷ js) s w bh b z (omega arith)) l

module _ (h : Job) (js : List Job) (s : List ℕ) (w : Fit Careful h js s) (bh : Body h) (b : Each Body js) where
  -- each block is read in both readings, or refused by the crate
  by-view : {P : Type 0} (k : ℕ) → (k < length js → Both s k → P) → ((x : Refusal) → view_of Crate s k ≡ Err x → P)
      → P
  by-view k f g =
      either (eqb (asked_padding h) 0)
      (λ t. let z : asked_padding h ≡ 0 = eqb-true _ _ t in
      either (ltb k (length js))
      (λ l. let m : k < length js = ltb-true _ _ l in f m (both_read h js s w bh b z k m))
      (λ l. g _ (view-beneath h js s w bh b z k (ltb-false _ _ l))))
      (λ t. let z : asked_padding h ≡ 0 → ⊥ = eqb-false _ _ t in
      g _ (view-refused s k _ (crate-padded Careful h js s w bh b (omega (arith, z)))))

  no_more : (k : ℕ) → misleads s k ≡ false → AsStandard s k × AsShown s k
  no_more k m =
      by-view k (λ _ c. (as-standard s k c m, as-shown s k c m)) (λ x e. (unseen s k x e, unshown s k x e))

  no_less : (k : ℕ) → AsStandard s k → misleads s k ≡ false
  no_less k a = by-view k (λ _ c. no-misleading s k c a) (λ x e. unseen-misleads s k x e)

  within : (k : ℕ) → misleads s k ≡ true → k < length js
  within k t = by-view k (λ l _. l) (λ x e. true≢false (sym (unseen-misleads s k x e) ∙ t))

  counted : (m : ℕ) → count_of Crate s ≡ Ok m → m ≡ length js
  counted m e =
      either (eqb (asked_padding h) 0)
      (λ t. by_blocks js w b (eqb-true _ _ t))
      (λ t. let z : asked_padding h ≡ 0 → ⊥ = eqb-false _ _ t in
      let d = crate-padded Careful h js s w bh b (omega (arith, z)) in
      absurd (let y : ◌≡◌ {A = ℕ} 0 1 = cc in omega arith))
    where
      by_blocks : (js : List Job) → Fit Careful h js s → Each Body js → asked_padding h ≡ 0 → m ≡ length js
      by_blocks [] w b z =
          let d = crate-empty Careful h s w bh z in absurd (let y : ◌≡◌ {A = ℕ} 0 1 = cc in omega arith)
      by_blocks (j ∷ js) w b z =
          let d = crate-count h (j ∷ js) s w bh b z (omega arith) in
          let q : m ≡ length (j ∷ js) = cc in q

  -- 15, and what is written
  first : (k : ℕ) → misleading_from s 0 (length js) ≡ Err (Misleads k) → FirstMisleading s k
  first k e =
      let p = first-misleads s (length js) 0 k e in
      record {
        misleads = λ a. true≢false (sym (no_less k a) ∙ p.0);
        first = λ i l. (no_more i (p.1 i (omega arith) l)).0;
      }

  back : (k : ℕ) → FirstMisleading s k → misleading_from s 0 (length js) ≡ Err (Misleads k)
  back k f =
      either (misleads s k)
      (λ t. misleads-first s (length js) 0 k (omega arith) (omega (arith, within k t)) t
      (λ i _ l. no_less i (f.first i l)))
      (λ m. absurd (f.misleads (no_more k m).0))

  all : misleading_from s 0 (length js) ≡ Ok tt → (k : ℕ) → AsStandard s k × AsShown s k
  all e k =
      either (ltb k (length js))
      (λ l. let m : k < length js = ltb-true _ _ l in
      no_more k (none-misleads s (length js) 0 e k (omega arith) (omega arith)))
      (λ l. let m : length js ≤ k = ltb-false _ _ l in
      no_more k (either (misleads s k) (λ t. absurd (omega (arith, within k t, m))) (λ f. f)))

-- ---- the claims

abbrev laid : List ℕ → List ℕ
laid list = layout_of Careful (jobs_of list)

abbrev fifteen_of : List ℕ → Or (Unit {0})
fifteen_of list = misleading_from (laid list) 0 (blocks_in (jobs_of list))

-- a judged list is answered by 15 alone
judged-answer : (list : List ℕ) → Judged list → packet_of Careful list ≡ on_fine (fifteen_of list) (Ok (laid list))
unfolding packet_of write_fault
judged-answer list g = rw (g.good, g.fits)

-- the records of a judged list, the blocks that they ask for, and the packet
by-records : (P : List Job → ℕ → List ℕ → Type 0) (list : List ℕ) → Judged list
    → ((h : Job) (js : List Job) → Fit Careful h js (layout_of Careful (h ∷ js)) → Body h → Each Body js
    → P (h ∷ js) (length js) (layout_of Careful (h ∷ js)))
    → P (jobs_of list) (blocks_in (jobs_of list)) (laid list)
by-records P list g f = by_first (jobs_of list) (some-record list) (bodies list g.bytes) g.good g.fits
  where
    by_first : (js : List Job) → (js ≡ [] → ⊥) → Each Body js → jobs_fault 0 js ≡ Ok tt
        → size_fault (blocks_in js) (length (layout_of Careful js)) ≡ Ok tt → P js (blocks_in js) (layout_of Careful js)
    by_first [] k b e z = absurd (k refl)
    by_first (h ∷ js) k b e z =
        let n : length js ≡ blocks_in (h ∷ js) = omega arith in
        subst (λ (n : ℕ). P (h ∷ js) n (layout_of Careful (h ∷ js))) n (f h js (fit Careful h js e z) b.0 b.1)

unfit-refused : {A : Type 0} (c : Or (Unit {0})) (a : A) (x : Refusal) → on_fine c (Ok a) ≡ Err x → c ≡ Err x
unfit-refused (Ok _) a x e = absurd (let z : ◌≡◌ {A = ℕ} 0 1 = cc in omega arith)
unfit-refused (Err y) a x e = cc

pub fifteen : Fifteen
fifteen list g k = let a = judged-answer list g in (
  (λ e. to (unfit-refused (fifteen_of list) (laid list) (Misleads k) (sym a ∙ e))),
  (λ f. a ∙ ap (λ (c : Or (Unit {0})). on_fine c (Ok (laid list))) (from f)),
)
  where
    to : fifteen_of list ≡ Err (Misleads k) → FirstMisleading (laid list) k
    to = by-records (λ _ n s. misleading_from s 0 n ≡ Err (Misleads k) → FirstMisleading s k)
        list g (λ h js w bh b. first h js _ w bh b k)

    from : FirstMisleading (laid list) k → fifteen_of list ≡ Err (Misleads k)
    from = by-records (λ _ n s. FirstMisleading s k → misleading_from s 0 n ≡ Err (Misleads k))
        list g (λ h js w bh b. back h js _ w bh b k)

pub unread : Unread
unread list g = let a = judged-answer list g in (
  (λ p. let c = padded p in
      (a ∙ (rw (refused-nobody (laid list) _ c (blocks_in (jobs_of list)) 0)), c)),
  (λ z e. let c = empty z e in
      (a ∙ (rw (refused-nobody (laid list) _ c (blocks_in (jobs_of list)) 0)), c)),
)
  where
    padded : let n = asked_padding (record_at (jobs_of list) 0) in
        0 < n → count_of Crate (laid list) ≡ Err (BlockTooLong ((n + 1) * 4) 4)
    padded =
        by-records (λ js _ s. let n = asked_padding (record_at js 0) in
        0 < n → count_of Crate s ≡ Err (BlockTooLong ((n + 1) * 4) 4))
        list g (λ h js w bh b. crate-padded Careful h js _ w bh b)

    empty : asked_padding (record_at (jobs_of list) 0) ≡ 0 → blocks_in (jobs_of list) ≡ 0
        → count_of Crate (laid list) ≡ Err (TooShort 12 8)
    empty =
        by-records (λ js n s. asked_padding (record_at js 0) ≡ 0 → n ≡ 0
        → count_of Crate s ≡ Err (TooShort 12 8))
        list g none
      where
        none : (h : Job) (js : List Job) → Fit Careful h js (layout_of Careful (h ∷ js)) → Body h → Each Body js
            → asked_padding h ≡ 0 → length js ≡ 0
            → count_of Crate (layout_of Careful (h ∷ js)) ≡ Err (TooShort 12 8)
        none h [] w bh b z e = crate-empty Careful h _ w bh z
        none h (j ∷ js) w bh b z e = absurd (omega arith)

pub not-misled : NotMisled
not-misled list out out' n bytes p =
    let e = listed-taken out out' n (packet_of Careful list) p in
    let w = written Careful list (take n out') e in
    let g : Judged list = record { bytes = bytes; good = w.0; fits = w.1 } in
    let f : fifteen_of list ≡ (Ok tt) =
    (on_fine_lem (fifteen_of list) (laid list) (take n out') (sym (judged-answer list g) ∙ e)).0 in
    rw (← w.2) (counts g, (λ k. (seen g f k).0), (λ k. (seen g f k).1))
  where
    counts : Judged list → (m : ℕ) → count_of Crate (laid list) ≡ Ok m → m ≡ blocks_in (jobs_of list)
    counts g =
        by-records (λ _ n s. (m : ℕ) → count_of Crate s ≡ Ok m → m ≡ n)
        list g (λ h js w bh b. counted h js _ w bh b)

    seen : Judged list → fifteen_of list ≡ Ok tt → (k : ℕ) → AsStandard (laid list) k × AsShown (laid list) k
    seen g =
        by-records (λ _ n s. misleading_from s 0 n ≡ Ok tt → (k : ℕ) → AsStandard s k × AsShown s k)
        list g (λ h js w bh b. all h js _ w bh b)
