-- Facts of def_probe for type 6: what xrprobe answers to requests of kind 13, and to others that are about a summary
-- (README, "xrprobe").
use Rattle.std.specs.Prelude.{ℕ, ◌≡◌, List, [], ◌∷◌, ◌++◌, replicate}
use Rattle.def_probe.specs.Requests.{cut, answer_to}
use Rattle.examples.specs.Rows.{packet, le2, le4, le4s, job, header}
use Rattle.examples.specs.Probe.{says, asks, lists}
use Rattle.examples.specs.ProbePortions.{gives}
use Rattle.examples.specs.DumpSummary.{words_of}

-- kind 13: the block, the packet
abbrev pub asks-summary : ℕ → List ℕ → List ℕ
asks-summary k s = le4 k ++ s

-- the body of a job list's record with the numbers of these words
abbrev pub body_of : ℕ → List ℕ
body_of flags =
    flags ∷ 0 ∷ (le4 7 ++ (le2 10 ++ (le2 14 ++ (le4s (1 ∷ 2 ∷ 3 ∷ 4 ∷ 5 ∷ 6 ∷ []) ++ (7 ∷ 8 ∷ 9 ∷ 10 ∷ [])))))

pub record OfRequests : Type 0 where
  -- the four lines
  pub summaries :
      (answer_to 13 (asks-summary 0 (packet (words_of 232)))
      ≡ says ("ssrc 7 begin 10 end 14" ∷ "lost 1 duplicates 2" ∷ "jitter 3 4 5 6" ∷ "ttl 7 8 9 10" ∷ []))
      × (answer_to 13 (asks-summary 1 (packet (words_of 232 ++ words_of 64)))
      ≡ says ("ssrc 7 begin 10 end 14" ∷ "lost absent duplicates 2" ∷ "jitter absent" ∷ "ttl absent" ∷ []))
  -- or the refusal: 1, 9, 10, 7, as the standard has them
  pub refusals :
      (answer_to 13 (asks-summary 0 []) ≡ says ("refused 1 8 0" ∷ []))
      × (answer_to 13 (asks-summary 0 (packet [])) ≡ says ("refused 9 0 0" ∷ []))
      × (answer_to 13 (asks-summary 1 (packet (words_of 0))) ≡ says ("refused 9 1 0" ∷ []))
      × (answer_to 13 (asks-summary 0 (packet (0x63000000 ∷ []))) ≡ says ("refused 10 99 0" ∷ []))
      × (answer_to 13 (asks-summary 0 (packet (0x06000008 ∷ replicate 8 1))) ≡ says ("refused 7 40 36" ∷ []))
  -- three bytes are too few, and four are enough; a block over 65,536
  pub bounds :
      (answer_to 13 (0 ∷ 0 ∷ 0 ∷ []) ≡ cut) × (answer_to 13 [] ≡ cut)
      × (answer_to 13 (asks-summary 65536 (packet (words_of 0))) ≡ says ("refused 9 1 0" ∷ []))
  -- other questions of a summary: 10 with 6
  pub otherwise :
      (answer_to 3 (asks 0 0 6 (packet (words_of 232))) ≡ says ("refused 10 6 0" ∷ []))
      × (answer_to 3 (asks 1 0 1 (packet (words_of 232))) ≡ says ("refused 10 6 0" ∷ []))
      × (answer_to 14 (lists 0 0 6 9 (packet (words_of 232))) ≡ says ("refused 10 6 0" ∷ []))
  -- written, and in portions
  pub written :
      answer_to 5 (le4 99 ++ (header 0 ++ job 6 (body_of 232)))
      ≡ says
      ("packet 80cf000b0000000106e8000900000007000a000e0000000100000002000000030000000400000005000000060708090a" ∷ [])
  pub in-portions :
      (answer_to 12 (gives 9 (12 ∷ 35 ∷ []) (packet (words_of 232)))
      ≡ says
      ("header 48 1"
      ∷ "start 6 40"
      ∷ "taken 12 events 2"
      ∷ "taken 35 events 0"
      ∷ "summary ssrc 7 begin 10 end 14; lost 1 duplicates 2; jitter 3 4 5 6; ttl 7 8 9 10"
      ∷ "end"
      ∷ "taken 1 events 2"
      ∷ []))
      × (answer_to 12 (gives 9 [] (packet (0x06000008 ∷ replicate 8 1)))
      ≡ says ("header 44 1" ∷ "refused 7 40 36" ∷ []))
