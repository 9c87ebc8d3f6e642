-- `jobs::is_header` meets its contract.
use Rattle.jobs.specs.Places.{job_of}
use Rattle.jobs.proofs.HeaderLaws.{header-kind, header-length, header-four, header-most}
use Rattle.jobs.proofs.is_header.Goals as goal

pub returns-then-kind-ne0 : goal.returns-then-kind-ne0
returns-then-kind-ne0 c = let a = c.args in header-kind (job_of a.kind a.body.now) c.if-kind-ne0.true

pub returns-then-body-ne6 : goal.returns-then-body-ne6
returns-then-body-ne6 c = let a = c.args in
    header-length (job_of a.kind a.body.now) c.if-kind-ne0.false c.if-body-ne6.true

pub returns-then-padding-ne0 : goal.returns-then-padding-ne0
returns-then-padding-ne0 c = let a = c.args in
    header-four (job_of a.kind a.body.now) c.if-kind-ne0.false c.if-body-ne6.false _ c.u16_from_le_bytes-padding.ensures
    c.if-padding-ne0.true

pub returns : goal.returns
returns c = let a = c.args in
    header-most (job_of a.kind a.body.now) c.if-kind-ne0.false c.if-body-ne6.false _ c.u16_from_le_bytes-padding.ensures
    c.if-padding-ne0.false
