-- `write::misleading` meets its contract: none with padding, else the list's records are looked through.
use Prim.Native.Nat.{ℕ}
use mathlib.Core.Path.{◌≡◌, ap, ◌∙◌}
use mathlib.Core.List.{List}
use native.Mathlib.Omega.{arith}
use lib.ListN.{drop}
use Rattle.def_jobs.specs.declared.Layout.TheVariants.{Careful}
use Rattle.def_jobs.specs.Jobs.{le16, job_at, asked_padding}
use Rattle.jobs.specs.Places.{next_job, jobs_behind}
use Rattle.misled.specs.Misled.{misled_fault}
use Rattle.write.proofs.PacketLaws.{framed, fifteen-padded, fifteen-bare, blocks-size}
use Rattle.write.proofs.misleading.Goals as goal
use Rattle.write.proofs.misleading.Goals.{After-u16_from_le_bytes, Else-u16_from_le_bytes-ne0}

-- the number that was read is the asked padding
padding : (c : After-u16_from_le_bytes) → c.u16_from_le_bytes.result ≡ asked_padding (job_at c.args.list.now)
padding c =
    c.u16_from_le_bytes.ensures ∙ ap (λ (s : List ℕ). le16 s 4) c.body_at.ensures.result_value

-- there is none
bare : (c : Else-u16_from_le_bytes-ne0) → asked_padding (job_at c.args.list.now) ≡ 0
bare c =
    let padding : c.u16_from_le_bytes.result ≡ asked_padding (job_at c.args.list.now) = c.u16_from_le_bytes.ensures ∙ ap (λ (s : List ℕ). le16 s 4) c.body_at.ensures.result_value in
    omega (arith, padding, c.if-u16_from_le_bytes-ne0.false)

pub returns-then-u16_from_le_bytes-ne0 : goal.returns-then-u16_from_le_bytes-ne0
returns-then-u16_from_le_bytes-ne0 c = let a = c.args in
    fifteen-padded a.list.now a.size c.requires (λ i. (c.type_inv.list i).fits)
    (omega (arith, padding (goal.at.returns-then-u16_from_le_bytes-ne0 c).After-u16_from_le_bytes, c.if-u16_from_le_bytes-ne0.true))

pub overflow_sub-size : goal.overflow_sub-size
overflow_sub-size c = let a = c.args in
    (blocks-size a.list.now a.size c.requires (λ i. (c.type_inv.list i).fits) (bare (goal.at.overflow_sub-size c).Else-u16_from_le_bytes-ne0)).0

pub misled_behind-requires : goal.misled_behind-requires
misled_behind-requires c = let a = c.args in
    let n : c.next_at.result ≡ next_job a.list.now 0 = c.next_at.ensures in (
      omega (arith, n),
      rw n (framed Careful a.list.now a.size c.requires).fine,
      rw n (blocks-size a.list.now a.size c.requires (λ i. (c.type_inv.list i).fits) (bare (goal.at.misled_behind-requires c).Else-u16_from_le_bytes-ne0)).1,
    )

pub returns : goal.returns
returns c = let a = c.args in
    c.misled_behind.ensures
    ∙ ap (λ (k : ℕ). misled_fault 0 (jobs_behind (drop k a.list.now))) c.next_at.ensures
    ∙ fifteen-bare a.list.now a.size c.requires (λ i. (c.type_inv.list i).fits) (bare (goal.at.returns c).Else-u16_from_le_bytes-ne0)
