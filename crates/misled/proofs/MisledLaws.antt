-- Whether a record misleads, by its kind: the one place that unfolds `misled_by`. Assumes nothing.
--     fielded-words, fielded-times     what a good record of types 1 to 3 has
--     misled-bad, misled-as            whether it misleads: a bad one never, a good one by its kind
--     shared-on, shared-off            what both readings list, by whether begin is on the grid
use Rattle.std.specs.Prelude.{Option, Some}
use Rattle.std.proofs.Common.{◌≡◌, ℕ, ◌+◌, ◌-◌, ◌/◌, true, false, length, sym, ◌∙◌}
use Rattle.def_wire.specs.declared.Kind.{Kind}
use Rattle.def_wire.specs.declared.Fields.{Fields}
use Rattle.def_wire.specs.declared.Rle.{Rle}
use Rattle.def_wire.specs.declared.Ranged.TheVariants.{Chunks, Times}
use Rattle.def_wire.specs.declared.Kind.TheVariants.{Spans}
use Rattle.def_wire.specs.Block.{kind_of}
use Rattle.def_standard.specs.Range.{range_of}
use Rattle.range.specs.Grid.{on_grid}
use Rattle.def_jobs.specs.Jobs.{Job, job_fields, is_block_job}
use Rattle.block_size.specs.Judged.{Fielded}
use Rattle.block_size.proofs.JudgeLaws.{fields-are, good-words, block-as}
use Rattle.block_size.proofs.ZerosLaws.{length-times}
use Rattle.misled.specs.Misled.{shared_of, misled_times, misled_as, misled_by}

module _ (f : Fields) where
  pub shared-on : on_grid f ≡ true → shared_of f ≡ range_of f
  unfolding shared_of
  shared-on on = rw on

  pub shared-off : on_grid f ≡ false → shared_of f ≡ record { begin = f.begin; size = 0; thinning = f.thinning }
  unfolding shared_of
  shared-off off = rw off

module _ (j : Job) (behind : ℕ) where
  pub misled-bad : is_block_job j ≡ false → false ≡ misled_by j behind
  unfolding misled_by
  misled-bad b = rw b

  module _ (b : is_block_job j ≡ true) where
    pub misled-as : {k : Option Kind} → kind_of j.kind ≡ k → misled_as k j behind ≡ misled_by j behind
    unfolding misled_by
    misled-as e = rw (b, e)

    pub fielded-words : (a : Rle) → kind_of j.kind ≡ Some (Spans (Chunks a)) → Fielded j.body 2
    fielded-words a e = good-words j (sym (block-as j e) ∙ b)

    module _ (e : kind_of j.kind ≡ Some (Spans Times)) where
      pub fielded-times : Fielded j.body 4
      fielded-times = fields-are j 4 (sym (block-as j e) ∙ b)

      pub misled-times : let own = (length j.body - 10) / 4 in
          misled_times (job_fields j) own (own + behind / 4) ≡ misled_by j behind
      misled-times = rw (← length-times j) (misled-as e)
