-- A block of type 6, behind its first four bytes, as far as its bytes have come. Assumes bytes below 256.
--     summary-size     four items of eight bytes and one of four: its event, and then what is behind it
use Prim.Native.Nat.{ℕ, zero, suc, ◌+◌, ◌*◌, ◌-◌, ◌/◌, ◌%◌, ◌≤◌, ◌<◌}
use mathlib.Core.Path.{◌≡◌, refl, sym, ap, ap₂, ◌∙◌}
use mathlib.Core.List.{List, [], ◌∷◌, ◌++◌}
use native.Mathlib.Omega.{arith}
use lib.ListN.{length, take, drop, length-take, length-drop, take-append-drop}
use lib.Seq.{length-take-le}
use lib.Dec.{ltb}
use borrow.Author.Tests.{ltb-true, ltb-false, lt-leb, ne_eqb}
use Rattle.laws.proofs.Tests.{either}
use Rattle.utils.proofs.BytesLaws.{Bytes, be16-lt}
use Rattle.def_wire.specs.declared.Sums.{Sums}
use Rattle.def_wire.specs.declared.Summary.{Summary}
use Rattle.def_wire.specs.Bytes.{byte_at, be16, be32, be64}
use Rattle.def_wire.specs.Block.{specific_of}
use Rattle.def_wire.specs.Summary.{spread, byte_spread, summary_from, summary_at}
use Rattle.def_portions.specs.declared.Event.TheVariants.{Summed}
use Rattle.def_portions.specs.Events.{quiet, then, from}
use Rattle.states.specs.declared.Known.{Known}
use Rattle.states.specs.Steps.{state, sums, hops, skipped, kept, held_over, low16, low32, high32, summing, sums_in}
use Rattle.states.specs.Steps.{summary_in, summed_on, passed, shown_by, lone_of, opened}
use Rattle.followed.specs.Run.{run_of, opening, ending}
use Rattle.followed.proofs.ItemRun.{item-open, item-passed}
use Rattle.followed.proofs.BehindRun.{ending-more, ending-open, opened-item, opened-none}
use Rattle.followed.proofs.ValueLaws.{by-four, by-eight, held-four, held-eight, four-held, be32-lt}
use Rattle.followed.proofs.ValueLaws.{bytes_take, bytes_drop}
use Rattle.followed.proofs.RangedRun.{header, block_known}

-- ---- its items

module _ (behind : ℕ) (k : Known) where
  -- behind eight bytes
  abbrev on : List ℕ → Known
  on t = summing k (held_over sums 0 t)

  -- eight bytes, where others follow
  sums-more : (rest : ℕ) (t x : List ℕ) → length t ≡ 8
      → run_of (state sums 8 0 (8 + (4 + rest)) behind k) (t ++ x) ≡ run_of (state sums 8 0 (4 + rest) behind (on t)) x
  unfolding passed shown_by lone_of summed_on
  sums-more rest t x e =
      let n : 8 + (4 + rest) ≡ 4 → ⊥ = λ (z : 8 + (4 + rest) ≡ 4). absurd (omega arith) in
      let m : 8 + (4 + rest) - 8 ≡ 4 + rest = omega arith in
      item-passed sums 8 (8 + (4 + rest)) behind k t x (omega arith) e refl
      ∙ (rw (ne_eqb (8 + (4 + rest)) 4 n)
      (opened-item (on t) (8 + (4 + rest)) behind sums 8 x refl (omega arith)
      ∙ ap (λ (j : ℕ). run_of (state sums 8 0 j behind (on t)) x) m))

  -- the last eight
  sums-last : (t x : List ℕ) → length t ≡ 8
      → run_of (state sums 8 0 4 behind k) (t ++ x) ≡ run_of (state hops 4 0 0 behind (on t)) x
  unfolding passed shown_by lone_of summed_on
  sums-last t x e =
      item-passed sums 8 4 behind k t x (omega arith) e refl
      ∙ opened-item (on t) 4 behind hops 4 x refl (omega arith)

  -- the last four
  hops-passed : (t x : List ℕ) → length t ≡ 4
      → run_of (state hops 4 0 0 behind k) (t ++ x)
      ≡ then (Summed (summary_in k (held_over hops 0 t)) ∷ []) (ending k.announced 0 behind x)
  unfolding passed shown_by lone_of
  hops-passed t x e =
      item-passed hops 4 0 behind k t x (omega arith) e refl ∙ (rw (opened-none k 0 behind skipped 0 x refl))

-- eight bytes, of which some are missing; or they have come, and others behind them
by_part : (rest behind : ℕ) (k : Known) (bs : List ℕ)
    → ((t x : List ℕ) → length t ≡ 8 → length x ≡ length bs - 8 → 8 ≤ length bs
    → run_of (state sums 8 0 rest behind k) (t ++ x) ≡ quiet)
    → run_of (state sums 8 0 rest behind k) bs ≡ quiet
by_part rest behind k bs f =
    either (ltb (length bs) 8)
    (λ t. item-open sums 8 rest behind k bs (ltb-true _ _ t))
    (λ g. let l : 8 ≤ length bs = ltb-false _ _ g in
    rw (take-append-drop 8 bs) at (f (take 8 bs) (drop 8 bs) (length-take-le 8 bs l) (length-drop 8 bs) l))

-- n times eight bytes, eight and four, of which some are missing
begun : (n behind : ℕ) (k : Known) (bs : List ℕ) → length bs < 8 * n + 12
    → run_of (state sums 8 0 (4 + 8 * n) behind k) bs ≡ quiet
begun zero behind k bs h =
    by_part 4 behind k bs
    (λ t x e m l. sums-last behind k t x e ∙ item-open hops 4 0 behind (on behind k t) x (omega arith))
begun (suc n) behind k bs h =
    let r : 8 + (4 + 8 * n) ≡ 4 + 8 * suc n = omega arith in
    rw (← r)
    (by_part (8 + (4 + 8 * n)) behind k bs
    (λ t x e m l. sums-more behind k (8 * n) t x e ∙ begun n behind (on behind k t) x (omega arith)))

-- ---- its numbers

-- what eight bytes say, by fours and by twos; and four, one by one
module _ (t : List ℕ) (y : Bytes t) where
  high-back : high32 (be64 t 0) ≡ be32 t 0
  high-back =
      let h : be32 t 0 < 4294967296 = be32-lt t 0 y in
      let l : be32 t 4 < 4294967296 = be32-lt t 4 y in
      omega arith

  low-back : low32 (be64 t 0) ≡ be32 t 4
  low-back = let l : be32 t 4 < 4294967296 = be32-lt t 4 y in omega arith

  begin-back : low16 (be64 t 0 / 65536) ≡ be16 t 4
  begin-back =
      let h : be16 t 4 < 65536 = be16-lt t 4 y in
      let l : be16 t 6 < 65536 = be16-lt t 6 y in
      omega arith

  end_back : low16 (be64 t 0) ≡ be16 t 6
  end_back = let l : be16 t 6 < 65536 = be16-lt t 6 y in omega arith

-- five parts of a row of bytes
abbrev row : List ℕ → List ℕ → List ℕ → List ℕ → List ℕ → List ℕ → List ℕ
row p q r s t x = p ++ (q ++ (r ++ (s ++ (t ++ x))))

module _ (p q r s t : List ℕ) where
  abbrev sums_by : Sums
  sums_by = record {
    ssrc = be32 p 0;
    begin = be16 p 4;
    end = be16 p 6;
    lost = be32 q 0;
    duplicates = be32 q 4;
    jitter = spread (be32 r 0) (be32 r 4) (be32 s 0) (be32 s 4);
    hops = byte_spread (byte_at t 0) (byte_at t 1) (byte_at t 2) (byte_at t 3);
  }

-- the numbers of the five parts are those of the block
joined : (a b c d : ℕ) (p q r s t x : List ℕ) → length p ≡ 8 → length q ≡ 8 → length r ≡ 8 → length s ≡ 8
    → length t ≡ 4 → let v = header a b c d ++ take 36 (row p q r s t x) in
    from 40 v (Summed (summary_at v) ∷ []) ≡ Summed (summary_from b (sums_by p q r s t)) ∷ []
joined a b c d p q r s t x i j k l m =
    by-eight (λ p. Is p q r s t)
    (λ p₁ p₂ p₃ p₄ p₅ p₆ p₇ p₈. let p = p₁ ∷ p₂ ∷ p₃ ∷ p₄ ∷ p₅ ∷ p₆ ∷ p₇ ∷ p₈ ∷ [] in
    by-eight (λ q. Is p q r s t)
    (λ q₁ q₂ q₃ q₄ q₅ q₆ q₇ q₈. let q = q₁ ∷ q₂ ∷ q₃ ∷ q₄ ∷ q₅ ∷ q₆ ∷ q₇ ∷ q₈ ∷ [] in
    by-eight (λ r. Is p q r s t)
    (λ r₁ r₂ r₃ r₄ r₅ r₆ r₇ r₈. let r = r₁ ∷ r₂ ∷ r₃ ∷ r₄ ∷ r₅ ∷ r₆ ∷ r₇ ∷ r₈ ∷ [] in
    by-eight (λ s. Is p q r s t)
    (λ s₁ s₂ s₃ s₄ s₅ s₆ s₇ s₈. let s = s₁ ∷ s₂ ∷ s₃ ∷ s₄ ∷ s₅ ∷ s₆ ∷ s₇ ∷ s₈ ∷ [] in
    by-four (λ t. Is p q r s t) (λ t₁ t₂ t₃ t₄. refl) t m) s l) r k) q j) p i
  where
    Is : List ℕ → List ℕ → List ℕ → List ℕ → List ℕ → Type 0
    Is p q r s t = let v = header a b c d ++ take 36 (row p q r s t x) in
        from 40 v (Summed (summary_at v) ∷ []) ≡ Summed (summary_from b (sums_by p q r s t)) ∷ []

-- what is kept of the five parts are their numbers
values : (p q r s t : List ℕ) → length p ≡ 8 → length q ≡ 8 → length r ≡ 8 → length s ≡ 8 → length t ≡ 4 → Bytes p
    → Bytes q → Bytes r → Bytes s → Bytes t
    → sums_in (kept (held_over sums 0 p) (held_over sums 0 q) (held_over sums 0 r) (held_over sums 0 s)) (held_over hops 0 t)
    ≡ sums_by p q r s t
values p q r s t i j k l m e f g h y =
    let a : byte_at t 0 < 256 = y 0 in
    let b : byte_at t 1 < 256 = y 1 in
    let c : byte_at t 2 < 256 = y 2 in
    let d : byte_at t 3 < 256 = y 3 in
    let e₁ : be32 t 0 / 16777216 % 256 ≡ byte_at t 0 = omega arith in
    let e₂ : be32 t 0 / 65536 % 256 ≡ byte_at t 1 = omega arith in
    let e₃ : be32 t 0 / 256 % 256 ≡ byte_at t 2 = omega arith in
    let e₄ : be32 t 0 % 256 ≡ byte_at t 3 = omega arith in
    rw (
      held-eight sums refl p i e,
      held-eight sums refl q j f,
      held-eight sums refl r k g,
      held-eight sums refl s l h,
      held-four hops refl t m y,
      high-back p e,
      begin-back p e,
      end_back p e,
      high-back q f,
      low-back q f,
      high-back r g,
      low-back r g,
      high-back s h,
      low-back s h,
      e₁,
      e₂,
      e₃,
      e₄,
    )

-- ---- all of it

module _ (a b c d : ℕ) (y : Bytes (header a b c d)) (announced behind : ℕ) where
  abbrev kn : Known
  kn = block_known a b c d announced

  -- what it shows, and then what is behind it
  abbrev Shows : ℕ → List ℕ → Type 0
  Shows n bs =
      let v = header a b c d ++ take n bs in
      opening (opened kn n behind sums 8) bs
      ≡ then (from 40 v (Summed (summary_at v) ∷ [])) (ending announced n behind bs)

  some-missing : (bs : List ℕ) → length bs < 36 → Shows 36 bs
  some-missing bs h =
      let v = header a b c d ++ take 36 bs in
      let l : length v < 40 = omega (arith, length-take 36 bs) in
      opened-item kn 36 behind sums 8 bs refl (omega arith) ∙ begun 3 behind kn bs (omega arith)
      ∙ (rw (lt-leb 40 (length v) l, ending-open announced 36 behind bs h))

  all_there : (p q r s t x : List ℕ) → length p ≡ 8 → length q ≡ 8 → length r ≡ 8 → length s ≡ 8 → length t ≡ 4
      → Bytes p → Bytes q → Bytes r → Bytes s → Bytes t → Shows 36 (row p q r s t x)
  all_there p q r s t x i j k l m e f g h u =
      let k₁ = on behind kn p in
      let k₂ = on behind k₁ q in
      let k₃ = on behind k₂ r in
      let k₄ = on behind k₃ s in
      let o : ending announced 36 behind (row p q r s t x) ≡ ending announced 0 behind x =
      ending-more announced 8 28 behind p (q ++ (r ++ (s ++ (t ++ x)))) i
      ∙ ending-more announced 8 20 behind q (r ++ (s ++ (t ++ x))) j
      ∙ ending-more announced 8 12 behind r (s ++ (t ++ x)) k
      ∙ ending-more announced 8 4 behind s (t ++ x) l
      ∙ ending-more announced 4 0 behind t x m in
      let w : summary_in k₄ (held_over hops 0 t) ≡ summary_from b (sums_by p q r s t) =
      ap₂ summary_from (ap specific_of (four-held (header a b c d) refl y)) (values p q r s t i j k l m e f g h u) in
      opened-item kn 36 behind sums 8 (row p q r s t x) refl (omega arith)
      ∙ sums-more behind kn 16 p (q ++ (r ++ (s ++ (t ++ x)))) i
      ∙ sums-more behind k₁ 8 q (r ++ (s ++ (t ++ x))) j
      ∙ sums-more behind k₂ 0 r (s ++ (t ++ x)) k
      ∙ sums-last behind k₃ s (t ++ x) l
      ∙ hops-passed behind k₄ t x m
      ∙ ap₂ then (ap (λ (z : Summary). Summed z ∷ []) w ∙ sym (joined a b c d p q r s t x i j k l m)) (sym o)

  summary-run : (bs : List ℕ) → Bytes bs → Shows 36 bs
  summary-run bs u =
      either (ltb (length bs) 36) (λ t. some-missing bs (ltb-true _ _ t))
      (λ f. let h : 36 ≤ length bs = ltb-false _ _ f in
      let b₁ = drop 8 bs in
      let b₂ = drop 8 b₁ in
      let b₃ = drop 8 b₂ in
      let b₄ = drop 8 b₃ in
      let l₁ : length b₁ ≡ length bs - 8 = length-drop 8 bs in
      let l₂ : length b₂ ≡ length b₁ - 8 = length-drop 8 b₁ in
      let l₃ : length b₃ ≡ length b₂ - 8 = length-drop 8 b₂ in
      let l₄ : length b₄ ≡ length b₃ - 8 = length-drop 8 b₃ in
      let u₁ = bytes_drop 8 bs u in
      let u₂ = bytes_drop 8 b₁ u₁ in
      let u₃ = bytes_drop 8 b₂ u₂ in
      let u₄ = bytes_drop 8 b₃ u₃ in
      rw (
        take-append-drop 4 b₄,
        take-append-drop 8 b₃,
        take-append-drop 8 b₂,
        take-append-drop 8 b₁,
        take-append-drop 8 bs,
      ) at
      (all_there (take 8 bs) (take 8 b₁) (take 8 b₂) (take 8 b₃) (take 4 b₄) (drop 4 b₄)
      (length-take-le 8 bs (omega arith)) (length-take-le 8 b₁ (omega arith)) (length-take-le 8 b₂ (omega arith))
      (length-take-le 8 b₃ (omega arith)) (length-take-le 4 b₄ (omega arith)) (bytes_take 8 bs u)
      (bytes_take 8 b₁ u₁) (bytes_take 8 b₂ u₂) (bytes_take 8 b₃ u₃) (bytes_take 4 b₄ u₄)))

  pub summary-size : (n : ℕ) (bs : List ℕ) → Bytes bs → n ≡ 36 → let v = header a b c d ++ take n bs in
      opening (opened kn n behind sums 8) bs
      ≡ then (from 40 v (Summed (summary_at v) ∷ [])) (ending announced n behind bs)
  summary-size n bs u e = rw e (summary-run bs u)
