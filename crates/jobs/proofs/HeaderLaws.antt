-- When a record is a good header record: the laws of `is_header_job`. Assumes nothing.
--     header-kind, ..     the tests in turn
--     header-padding      a good header record's padding is small
use Prim.Native.Nat.{ℕ, ◌%◌, ◌≤◌}
use mathlib.Core.Path.{◌≡◌}
use mathlib.Core.Bool.{true, false, ◌&&◌}
use lib.ListN.{length}
use lib.Dec.{leb, eqb}
use borrow.Author.Tests.{eq-eqb, ne_eqb, leb-true}
use Rattle.laws.proofs.Tests.{and-true}
use Rattle.def_jobs.specs.Jobs.{Job, is_header_job, asked_padding}

module _ (j : Job) where
  pub header-kind : (j.kind ≡ 0 → ⊥) → false ≡ is_header_job j
  unfolding is_header_job
  header-kind k = rw (ne_eqb _ _ k)

  module _ (k : j.kind ≡ 0) where
    pub header-length : (length j.body ≡ 6 → ⊥) → false ≡ is_header_job j
    unfolding is_header_job
    header-length l = rw (eq-eqb _ _ k, ne_eqb _ _ l)

    module _ (l : length j.body ≡ 6) (n : ℕ) (p : n ≡ asked_padding j) where
      pub header-four : (n % 4 ≡ 0 → ⊥) → false ≡ is_header_job j
      unfolding is_header_job
      header-four f = rw (eq-eqb _ _ k, eq-eqb _ _ l, ← p, ne_eqb _ _ f)

      pub header-most : n % 4 ≡ 0 → leb n 252 ≡ is_header_job j
      unfolding is_header_job
      header-most f = rw (eq-eqb _ _ k, eq-eqb _ _ l, ← p, eq-eqb _ _ f)

-- a good header's padding is small
pub header-padding : (h : Job) → is_header_job h ≡ true → asked_padding h ≤ 252
unfolding is_header_job
header-padding h e =
    let fit = leb (asked_padding h) 252 in
    let whole = eqb (asked_padding h % 4) 0 in
    let a = (and-true (eqb h.kind 0) (eqb (length h.body) 6 && (whole && fit)) e).1 in
    let b = (and-true (eqb (length h.body) 6) (whole && fit) a).1 in
    leb-true _ _ (and-true whole fit b).1
