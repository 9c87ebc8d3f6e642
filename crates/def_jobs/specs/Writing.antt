-- What a writer answers and leaves in the lent buffer: 12, 14, 15, 11 (RULES, "Refusal numbers" and "Job lists
-- and writing").
--     misleads      whether the crate reading shows a block otherwise than the standard
--     packet_of      the packet of a job list, or 12, 14 and 15 in that order
-- A writer's contract is def_refusals' `Listed (packet_of layout list)`: 11 comes last, and bytes behind the packet
-- stay.
use Rattle.std.specs.Prelude.{ℕ, zero, suc, ◌-◌, Bool, true, false, cond, not, ◌||◌, List, length, ltb, Ok, Err}
use Rattle.def_refusals.specs.declared.Refusal.TheVariants.{TooMany, Misleads}
use Rattle.def_refusals.specs.Answers.{Or, on_shown, on_fine, then_check}
use Rattle.def_wire.specs.declared.Reading.{Reading}
use Rattle.def_wire.specs.declared.Reading.TheVariants.{Standard, Crate}
use Rattle.def_wire.specs.Packet.{view_of}
use Rattle.def_jobs.specs.Shown.{Record, reported, received, clocked, echoed, summed, bare, record_of, same_record}
use Rattle.def_jobs.specs.declared.Layout.{Layout}
use Rattle.def_jobs.specs.declared.Layout.TheVariants.{Plain, Careful}
use Rattle.def_jobs.specs.Jobs.{Job, jobs_of, jobs_fault}
use Rattle.def_jobs.specs.Layout.{layout_of}

-- the most blocks and the most bytes of a written packet
abbrev pub max_blocks : ℕ
max_blocks = 31

abbrev pub max_bytes : ℕ
max_bytes = 262144

-- 14 of n blocks and a packet of so many bytes
abbrev pub size_fault : ℕ → ℕ → Or (Unit {0})
size_fault blocks bytes =
    cond (ltb max_blocks blocks) (Err (TooMany blocks max_blocks))
    (cond (ltb max_bytes bytes) (Err (TooMany bytes max_bytes)) (Ok tt))

-- what block k of a packet shows in a reading
abbrev pub shown_in : Reading → List ℕ → ℕ → Or Record
shown_in r s k = on_shown (view_of r s k) (record_of r)

-- what the crate shows, against what the standard shows: a refusal misleads nobody, and neither does a block of which
-- it shows type and length only
abbrev pub is_bare : Record → Bool
is_bare (reported a f l) = false
is_bare (received f l) = false
is_bare (clocked t) = false
is_bare (echoed l) = false
is_bare (summed s) = false
is_bare bare = true

abbrev pub same_shown : Record → Or Record → Bool
same_shown c (Err x) = false
same_shown c (Ok d) = same_record c d

abbrev pub differs : Or Record → Or Record → Bool
differs (Err x) standard = false
differs (Ok c) standard = not (is_bare c || same_shown c standard)

-- an old reader would be misled by block k
abbrev pub misleads : List ℕ → ℕ → Bool
misleads s k = differs (shown_in Crate s k) (shown_in Standard s k)

-- 15 with the first of n blocks from k on that misleads
unfoldable pub misleading_from : List ℕ → ℕ → ℕ → Or (Unit {0})
misleading_from s k zero = Ok tt
misleading_from s k (suc n) = cond (misleads s k) (Err (Misleads k)) (misleading_from s (suc k) n)

-- only careful writing asks for it
abbrev pub mislead_fault : Layout → List ℕ → ℕ → Or (Unit {0})
mislead_fault Plain s n = Ok tt
mislead_fault Careful s n = misleading_from s 0 n

-- the order of a writer's refusals, of records that are laid out as the packet s: 12, 14, 15
unfoldable pub write_fault : Layout → List Job → Or (Unit {0})
write_fault layout js =
    then_check (jobs_fault 0 js)
    (then_check (size_fault (length js - 1) (length (layout_of layout js)))
    (mislead_fault layout (layout_of layout js) (length js - 1)))

-- the packet, or why it is refused
unfoldable pub packet_of : Layout → List ℕ → Or (List ℕ)
packet_of layout list = on_fine (write_fault layout (jobs_of list)) (Ok (layout_of layout (jobs_of list)))
