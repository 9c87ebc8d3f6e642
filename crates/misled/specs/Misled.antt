-- What 15 comes to: whether an old reader would be misled by a record's block is a question about the record and how
-- many bytes stand behind its block (RULES, "Job lists and writing"). That it is what the definition says, the careful
-- layout read in both readings and compared, is proved in `old_readers`.
--     shared_of        the positions that both readings list, as the same numbers
--     outside_at       the first place of a word that has value one and is outside the range
--     goes_on          types 1 and 2: the crate's list goes on past the range
--     misled_times     type 3
--     misled_echoes    type 5
--     misled_by        a record, with so many bytes behind its block
--     misled_fault     15 with the index of the first of the records that misleads
use Rattle.std.specs.Prelude.{Option, Ok, Err, Some, None}
use Rattle.std.specs.Prelude.{ℕ, suc, ◌+◌, ◌/◌, ◌%◌, min, Bool, false, cond, not, ◌&&◌, List, [], ◌∷◌, length, ◌==◌, nat_le, nat_lt}
use Rattle.def_refusals.specs.Answers.{Or}
use Rattle.def_wire.specs.declared.Kind.{Kind}
use Rattle.def_refusals.specs.declared.Refusal.TheVariants.{Misleads}
use Rattle.def_wire.specs.declared.Fields.{Fields}
use Rattle.def_wire.specs.declared.Ranged.TheVariants.{Chunks, Times}
use Rattle.def_wire.specs.declared.Kind.TheVariants.{Spans, Clock, Echoes, Statistics}
use Rattle.def_wire.specs.Block.{kind_of}
use Rattle.def_standard.specs.declared.Range.{Range}
use Rattle.def_standard.specs.Chunks.{covers_of, values_in}
use Rattle.def_standard.specs.Range.{range_of, inside, number_of}
use Rattle.def_crate.specs.Sequence.{passes}
use Rattle.range.specs.Grid.{on_grid}
use Rattle.range.specs.Inside.{inside_count}
use Rattle.range.specs.Failing.{first_fail}
use Rattle.def_jobs.specs.declared.Layout.TheVariants.{Careful}
use Rattle.def_jobs.specs.Jobs.{Job, job_fields, job_words, job_times, is_block_job}
use Rattle.def_jobs.specs.Layout.{blocks_bytes}

-- where begin is on the grid, those of the block's range; else none, since the standard's numbers are all on the grid
-- and the crate's, counted from begin, all off it
unfoldable pub shared_of : Fields → Range
shared_of f =
    cond (on_grid f) (range_of f) (record { begin = f.begin; size = 0; thinning = f.thinning })

-- of a word whose first position is p: the first place, from place q on, of value one and outside the range; the place
-- past the values where there is none
unfoldable pub outside_from : Range → ℕ → ℕ → List ℕ → ℕ
outside_from g p q [] = q
outside_from g p q (v ∷ vs) = cond (v == 1 && not (inside g (p + q))) q (outside_from g p (suc q) vs)

abbrev pub outside_at : Range → ℕ → ℕ → ℕ
outside_at g p w = outside_from g p 0 (values_in w)

-- words whose first position is p: the first one-valued position that is not shared passes the crate's test, from the
-- number that its word begins with. All before it are listed in both readings, as the same numbers
unfoldable pub goes_on : Range → ℕ → ℕ → List ℕ → Bool
goes_on g end p [] = false
goes_on g end p (w ∷ ws) =
    cond (nat_lt (outside_at g p w) (covers_of w)) (passes (number_of g p) end (number_of g (p + outside_at g p w)))
    (goes_on g end (p + covers_of w) ws)

abbrev pub misled_words : Fields → List ℕ → Bool
misled_words f ws = goes_on (shared_of f) f.end 0 ws

-- of so many own times and so many up to the packet's end, the crate lists those before the first place that fails; the
-- own ones that are shared are listed in the standard as the crate lists them
unfoldable pub misled_times : Fields → ℕ → ℕ → Bool
misled_times f own all =
    not (min (first_fail f.begin f.end f.thinning) all == min (inside_count (shared_of f)) own)

-- the crate takes a block of 1, 5, 9, .. entries, and lists all that stands behind them too
unfoldable pub misled_echoes : ℕ → ℕ → Bool
misled_echoes n behind = n % 4 == 1 && nat_le 12 behind

abbrev pub misled_as : Option Kind → Job → ℕ → Bool
misled_as (Some (Spans (Chunks a))) j behind = misled_words (job_fields j) (job_words j)
misled_as (Some (Spans Times)) j behind =
    misled_times (job_fields j) (length (job_times j)) (length (job_times j) + behind / 4)
misled_as (Some Clock) j behind = false
misled_as (Some Echoes) j behind = misled_echoes (length j.body / 12) behind
misled_as (Some Statistics) j behind = false
misled_as None j behind = false

-- a bad record asks for no block
unfoldable pub misled_by : Job → ℕ → Bool
misled_by j behind = is_block_job j && misled_as (kind_of j.kind) j behind

-- the records from index k on, each with the blocks of those after it behind its own
unfoldable pub misled_fault : ℕ → List Job → Or (Unit {0})
misled_fault k [] = Ok tt
misled_fault k (j ∷ js) =
    cond (misled_by j (length (blocks_bytes Careful js))) (Err (Misleads k)) (misled_fault (suc k) js)
