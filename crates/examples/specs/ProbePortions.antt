-- Facts of def_probe: what xrprobe answers to requests of kind 12, packets in portions (README, "xrprobe").
use Rattle.std.specs.Prelude.{ℕ, ◌≡◌, List, [], ◌∷◌, ◌++◌, length, take}
use Rattle.def_dump.specs.EventLines.{given_line}
use Rattle.def_probe.specs.Requests.{cut, answer_to}
use Rattle.examples.specs.Rows.{rows, packet, le2, le4, le4s}
use Rattle.examples.specs.Text.{text_of}
use Rattle.examples.specs.Probe.{says, off}

-- room, sizes, bytes
abbrev pub gives : ℕ → List ℕ → List ℕ → List ℕ
gives room sizes s = le4 room ++ (le2 (length sizes) ++ (le4s sizes ++ s))

-- a loss block of two numbers, and one that its length rule refuses
abbrev pub heard : List ℕ
heard = packet (0x01000003 ∷ 7 ∷ 0x000a000e ∷ 0x40018000 ∷ [])

abbrev pub unfit : List ℕ
unfit = packet (0x63000000 ∷ 0x04000000 ∷ [])

-- a number, a run of ones of no length, and a block behind it
abbrev pub lost : List ℕ
lost = packet (0x01000003 ∷ 7 ∷ 0x000a000e ∷ 0x40014000 ∷ 0x63000000 ∷ [])

pub record OfPortions : Type 0 where
  -- all at once
  pub whole :
      (answer_to 12 (gives 2 [] (packet [])) ≡ says ("header 8 1" ∷ "end" ∷ "taken 8 events 2" ∷ []))
      × (answer_to 12 (gives 4 [] heard)
      ≡ says
      ("header 24 1" ∷ "start 1 16 ssrc 7 begin 10 end 14 thinning 0" ∷ "number 10" ∷ "end" ∷ "taken 24 events 4" ∷ []))
  -- no sizes and no bytes: no call
  pub none : answer_to 12 (gives 2 [] []) ≡ says []
  -- a call for each size, with no bytes too; then one with what is left
  pub sizes :
      (answer_to 12 (gives 2 (3 ∷ 0 ∷ 5 ∷ []) (packet []))
      ≡ says ("taken 3 events 0" ∷ "taken 0 events 0" ∷ "header 8 1" ∷ "end" ∷ "taken 5 events 2" ∷ []))
      × (answer_to 12 (gives 2 (7 ∷ []) (packet []))
      ≡ says ("taken 7 events 0" ∷ "header 8 1" ∷ "end" ∷ "taken 1 events 2" ∷ []))
      × (answer_to 12 (gives 9 (1 ∷ []) []) ≡ says ("taken 0 events 0" ∷ []))
  -- a size over what is left gives what is left
  pub over :
      (answer_to 12 (gives 2 (7 ∷ 99 ∷ 4294967295 ∷ []) (packet []))
      ≡ says ("taken 7 events 0" ∷ "header 8 1" ∷ "end" ∷ "taken 1 events 2" ∷ "taken 0 events 0" ∷ []))
      × (answer_to 12 (gives 2 (65536 ∷ []) (packet [])) ≡ says ("header 8 1" ∷ "end" ∷ "taken 8 events 2" ∷ []))
  -- behind 11 and 19 the next call begins at the same byte
  pub again :
      (answer_to 12 (gives 1 (8 ∷ 7 ∷ []) (packet []))
      ≡ says ("refused 11 2 1" ∷ "taken 7 events 0" ∷ "refused 11 2 1" ∷ []))
      × (answer_to 12 (gives 9 (9 ∷ 8 ∷ []) (packet [] ++ 5 ∷ []))
      ≡ says ("refused 19 8 9" ∷ "header 8 1" ∷ "end" ∷ "taken 8 events 2" ∷ "refused 19 8 9" ∷ []))
  -- what stays stays; the call that meets it has taken its bytes
  pub stays :
      (answer_to 12 (gives 9 (4 ∷ 1 ∷ []) (rows (0x40cf0001 ∷ 1 ∷ [])))
      ≡ says ("refused 2 0 0" ∷ "refused 2 0 0" ∷ "refused 2 0 0" ∷ []))
      × (answer_to 12 (gives 9 (16 ∷ 0 ∷ []) unfit)
      ≡ says ("header 16 1" ∷ "start 99 4" ∷ "refused 7 12 4" ∷ "refused 7 12 4" ∷ []))
  -- a run of no length: all at once, and its two bytes apart; then it stays
  pub lost-run :
      (answer_to 12 (gives 9 [] lost)
      ≡ says
      ("header 28 1" ∷ "start 1 16 ssrc 7 begin 10 end 14 thinning 0" ∷ "number 10" ∷ "refused 7 12 16" ∷ []))
      × (answer_to 12 (gives 9 (20 ∷ 3 ∷ 1 ∷ 0 ∷ []) lost)
      ≡ says
      ("header 28 1"
      ∷ "start 1 16 ssrc 7 begin 10 end 14 thinning 0"
      ∷ "taken 20 events 2"
      ∷ "number 10"
      ∷ "taken 3 events 1"
      ∷ "refused 7 12 16"
      ∷ "refused 7 12 16"
      ∷ "refused 7 12 16"
      ∷ []))
      × (answer_to 12 (gives 2 (20 ∷ 4 ∷ []) lost)
      ≡ says
      ("header 28 1"
      ∷ "start 1 16 ssrc 7 begin 10 end 14 thinning 0"
      ∷ "taken 20 events 2"
      ∷ "number 10"
      ∷ "refused 7 12 16"
      ∷ "refused 7 12 16"
      ∷ []))
      × (answer_to 12 (gives 2 [] lost) ≡ says ("refused 11 3 2" ∷ []))
  -- begin off the grid, its two words apart
  pub off-the-grid :
      answer_to 12 (gives 9 (22 ∷ []) off)
      ≡ says
      ("header 24 1"
      ∷ "start 1 16 ssrc 7 begin 5 end 20 thinning 2"
      ∷ "number 8"
      ∷ "number 12"
      ∷ "taken 22 events 4"
      ∷ "number 16"
      ∷ "end"
      ∷ "taken 2 events 2"
      ∷ [])
  -- the most room
  pub room : answer_to 12 (gives 4294967295 [] (packet [])) ≡ says ("header 8 1" ∷ "end" ∷ "taken 8 events 2" ∷ [])
  -- five bytes; sizes that are not all there
  pub not-whole :
      (answer_to 12 (take 5 (gives 2 [] [])) ≡ cut) × (answer_to 12 (take 9 (gives 2 (3 ∷ []) [])) ≡ cut)
      × (answer_to 12 (le4 2 ++ (0 ∷ 1 ∷ packet [])) ≡ cut)
  pub line : given_line 12 3 ≡ text_of ("taken 12 events 3" ∷ [])
