-- Facts of def_cursor: which cursors are legal, one step, a stretch of steps. RULES, "Views, cursors and the dump".
use Rattle.std.specs.Prelude.{ℕ, ◌≡◌, true, false, List, [], ◌∷◌, map, Ok, Err}
use Rattle.def_refusals.specs.declared.Refusal.TheVariants.{NoPlace, NoRoom}
use Rattle.def_standard.specs.Range.{range_of}
use Rattle.def_cursor.specs.declared.Cursor.{Cursor}
use Rattle.def_cursor.specs.declared.Stretch.{Stretch}
use Rattle.def_cursor.specs.Cursor.{cursor, start, steps_in, word_at, legal, next_position, step_of, listed_at, taken_by}
use Rattle.def_cursor.specs.Cursor.{after_steps, listed_by, steps_left, cursor_fault, stretch_of, advance_to, left_to}
use Rattle.examples.specs.Rows.{fields}
use Rattle.examples.specs.Standard.{range}

-- two ones; nothing; a run of ones of length 0; two zeros; a vector, ones at places 0 and 14. 21 steps, 19 positions
abbrev pub five-words : List ℕ
five-words = 16386 ∷ 0 ∷ 16384 ∷ 2 ∷ 49153 ∷ []

-- word, place, position
abbrev pub place : ℕ → ℕ → ℕ → Cursor
place i q p = record { word = i; place = q; position = p }

abbrev pub stretch : ℕ → ℕ → ℕ → ℕ → ℕ → Stretch
stretch i q p taken listed = record { next = place i q p; taken = taken; listed = listed }

pub record Places : Type 0 where
  pub written : (cursor 3 4 5 ≡ place 3 4 5) × (start ≡ place 0 0 0)
  -- one step for each place, and one to pass a word covering none
  pub steps-in :
      map steps_in (0 ∷ 16384 ∷ 1 ∷ 2 ∷ 16385 ∷ 16386 ∷ 16383 ∷ 32768 ∷ []) ≡ 1 ∷ 1 ∷ 1 ∷ 2 ∷ 1 ∷ 2 ∷ 16383 ∷ 15 ∷ []
  pub at-hand : (word_at five-words (place 3 9 9) ≡ 2) × (word_at five-words (place 0 9 9) ≡ 16386)
  -- a word's last place and one past it
  pub legal-place :
      (legal five-words start ≡ true) × (legal five-words (place 0 1 0) ≡ true)
      × (legal five-words (place 0 2 0) ≡ false)
      × (legal five-words (place 4 14 0) ≡ true) × (legal five-words (place 4 15 0) ≡ false)
  -- a word covering none has place 0 only
  pub covering-none :
      (legal five-words (place 1 0 0) ≡ true) × (legal five-words (place 1 1 0) ≡ false)
      × (legal five-words (place 2 0 0) ≡ true) × (legal five-words (place 2 1 0) ≡ false)
  -- the end: the word count and place 0, with any position up to 65,536; no word further
  pub the_end :
      (legal five-words (place 5 0 0) ≡ true) × (legal five-words (place 5 0 65536) ≡ true)
      × (legal five-words (place 5 0 65537) ≡ false) × (legal five-words (place 5 1 0) ≡ false)
      × (legal five-words (place 6 0 0) ≡ false)
  pub no_words : (legal [] start ≡ true) × (legal [] (place 0 1 0) ≡ false) × (legal [] (place 1 0 0) ≡ false)
  -- a position of 65,536 and one over; the three values need not belong together
  pub legal-position :
      (legal five-words (place 0 0 65536) ≡ true) × (legal five-words (place 0 0 65537) ≡ false)
      × (legal five-words (place 0 0 60000) ≡ true) × (legal five-words (place 4 14 1) ≡ true)

pub record OneStep : Type 0 where
  -- the position stops at 65,536
  pub next-position : map next_position (0 ∷ 7 ∷ 65535 ∷ 65536 ∷ []) ≡ 1 ∷ 8 ∷ 65536 ∷ 65536 ∷ []
  -- one place on; after a word's last place the next word's place 0
  pub one_on :
      (step_of 16386 (place 3 0 7) ≡ place 3 1 8) × (step_of 16386 (place 3 1 8) ≡ place 4 0 9)
      × (step_of 49153 (place 3 13 7) ≡ place 3 14 8) × (step_of 49153 (place 3 14 8) ≡ place 4 0 9)
      × (step_of 1 (place 3 0 7) ≡ place 4 0 8)
  -- a word covering none is passed, and no position with it
  pub passed : (step_of 0 (place 3 0 7) ≡ place 4 0 7) × (step_of 16384 (place 3 0 7) ≡ place 4 0 7)
  -- steps go on where the position has stopped
  pub stopped :
      (step_of 16386 (place 3 0 65535) ≡ place 3 1 65536) × (step_of 16386 (place 3 0 65536) ≡ place 3 1 65536)
      × (step_of 16386 (place 3 1 65536) ≡ place 4 0 65536)
  -- the position's number, where the value is one and the position is inside
  pub listed :
      (listed_at (range 10 4 0) 16386 (place 0 1 3) ≡ 13 ∷ []) × (listed_at (range 10 4 0) 16386 (place 0 1 4) ≡ [])
      × (listed_at (range 10 4 0) 2 (place 0 1 3) ≡ []) × (listed_at (range 10 9 1) 49153 (place 0 0 4) ≡ 18 ∷ [])
      × (listed_at (range 10 4 0) 49153 (place 0 1 3) ≡ []) × (listed_at (range 10 4 0) 49153 (place 0 14 3) ≡ 13 ∷ [])
  -- a word covering none lists nothing, though 16384 is a run of ones
  pub listed-none :
      (listed_at (range 10 4 0) 0 (place 0 0 3) ≡ []) × (listed_at (range 10 4 0) 16384 (place 0 0 3) ≡ [])
  -- where the position has stopped, nothing is inside
  pub listed-stopped : listed_at (range 10 65536 0) 16386 (place 0 0 65536) ≡ []
  -- of fields with begin = end off the grid, by fours: the last position inside, and one past it
  pub listed-round :
      (listed_at (range_of (fields 7 5 5 2)) 16386 (place 0 0 16383) ≡ 4 ∷ [])
      × (listed_at (range_of (fields 7 5 5 2)) 16386 (place 0 0 16384) ≡ [])

pub record Steps : Type 0 where
  -- the lesser of budget and steps left: 21 in all, 16 from the second zero on, none at the end
  pub taken :
      map (λ k. taken_by five-words k start) (0 ∷ 1 ∷ 20 ∷ 21 ∷ 22 ∷ 100 ∷ []) ≡ 0 ∷ 1 ∷ 20 ∷ 21 ∷ 21 ∷ 21 ∷ []
  pub taken-from-here :
      (taken_by five-words 16 (place 3 1 0) ≡ 16) × (taken_by five-words 17 (place 3 1 0) ≡ 16)
      × (taken_by five-words 9 (place 5 0 0) ≡ 0)
  -- steps go on being counted where the position has stopped
  pub taken-stopped : taken_by five-words 100 (place 0 0 65536) ≡ 21
  -- budget 0 hands back the same three values
  pub same :
      (after_steps five-words 0 (place 4 9 1) ≡ place 4 9 1) × (after_steps five-words 9 (place 5 0 7) ≡ place 5 0 7)
  pub after :
      map (λ k. after_steps five-words k start) (1 ∷ 2 ∷ 3 ∷ 4 ∷ 5 ∷ 6 ∷ 20 ∷ 21 ∷ 22 ∷ [])
      ≡ place 0 1 1 ∷ place 1 0 2 ∷ place 2 0 2 ∷ place 3 0 2 ∷ place 3 1 3 ∷ place 4 0 4 ∷ place 4 14 18
      ∷ place 5 0 19 ∷ place 5 0 19 ∷ []
  pub after-stopped : after_steps five-words 3 (place 3 1 65535) ≡ place 4 2 65536
  -- what the stretch lists, and no more
  pub listed :
      (listed_by (range 10 30 0) five-words 0 start ≡ []) × (listed_by (range 10 30 0) five-words 1 start ≡ 10 ∷ [])
      × (listed_by (range 10 30 0) five-words 6 start ≡ 10 ∷ 11 ∷ [])
      × (listed_by (range 10 30 0) five-words 7 start ≡ 10 ∷ 11 ∷ 14 ∷ [])
      × (listed_by (range 10 30 0) five-words 20 start ≡ 10 ∷ 11 ∷ 14 ∷ [])
      × (listed_by (range 10 30 0) five-words 21 start ≡ 10 ∷ 11 ∷ 14 ∷ 28 ∷ [])
      × (listed_by (range 10 30 0) five-words 99 start ≡ 10 ∷ 11 ∷ 14 ∷ 28 ∷ [])
      × (listed_by (range 10 5 0) five-words 99 start ≡ 10 ∷ 11 ∷ 14 ∷ [])
  -- by the three values as they are given
  pub listed-from-here :
      (listed_by (range 10 30 0) five-words 9 (place 4 14 2) ≡ 12 ∷ [])
      × (listed_by (range 10 30 0) five-words 9 (place 5 0 0) ≡ [])
  -- of fields from 5 by fours: from the first number on the grid on; position 1 outside and inside; none at all
  pub listed-off-the-grid :
      (listed_by (range_of (fields 7 5 200 2)) five-words 99 start ≡ 8 ∷ 12 ∷ 24 ∷ 80 ∷ [])
      × (listed_by (range_of (fields 7 5 12 2)) five-words 99 start ≡ 8 ∷ [])
      × (listed_by (range_of (fields 7 5 13 2)) five-words 99 start ≡ 8 ∷ 12 ∷ [])
      × (listed_by (range_of (fields 7 5 8 2)) five-words 99 start ≡ [])
  -- how many steps are left, from a place of the first word on
  pub left :
      (steps_left five-words 0 ≡ 21) × (steps_left five-words 1 ≡ 20) × (steps_left (0 ∷ 16384 ∷ []) 0 ≡ 2)
      × (steps_left (16386 ∷ 3 ∷ []) 2 ≡ 3) × (steps_left [] 0 ≡ 0)

pub record Faults : Type 0 where
  -- 16, for budget 0 too, and before 11
  pub sixteen :
      (cursor_fault five-words (place 0 2 0) 0 0 ≡ Err NoPlace)
      × (cursor_fault five-words (place 0 2 0) 3 2 ≡ Err NoPlace)
  -- 11 with the budget and the room: one less than the budget, the budget, and none for budget 0
  pub eleven :
      (cursor_fault five-words start 3 2 ≡ Err (NoRoom 3 2)) × (cursor_fault five-words start 3 3 ≡ Ok tt)
      × (cursor_fault five-words start 3 4 ≡ Ok tt) × (cursor_fault five-words start 0 0 ≡ Ok tt)
  -- the room needed is the budget, even where fewer steps are left
  pub by-the-budget : cursor_fault five-words (place 5 0 0) 3 2 ≡ Err (NoRoom 3 2)
  -- where it stands then, the steps that were taken, and how many numbers were listed
  pub a-stretch :
      (stretch_of (range 10 30 0) five-words start 7 ≡ stretch 4 1 5 7 3)
      × (stretch_of (range 10 5 0) five-words start 99 ≡ stretch 5 0 19 21 3)
      × (stretch_of (range_of (fields 7 5 20 2)) five-words start 7 ≡ stretch 4 1 5 7 2)
      × (stretch_of (range_of (fields 7 5 8 2)) five-words start 7 ≡ stretch 4 1 5 7 0)
  pub answer :
      (advance_to (Ok tt) (stretch 1 2 3 4 5) ≡ Ok (stretch 1 2 3 4 5))
      × (advance_to (Err NoPlace) (stretch 1 2 3 4 5) ≡ Err NoPlace)
  pub left_behind :
      (left_to (Ok tt) (8 ∷ 9 ∷ []) (1 ∷ 2 ∷ 3 ∷ []) ≡ 8 ∷ 9 ∷ 3 ∷ [])
      × (left_to (Err NoPlace) (8 ∷ 9 ∷ []) (1 ∷ 2 ∷ 3 ∷ []) ≡ 1 ∷ 2 ∷ 3 ∷ [])
