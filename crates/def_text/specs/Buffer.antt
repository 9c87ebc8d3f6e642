-- Text that goes through a lent buffer: a buffer that is full is written out, and the text goes on from its front.
--     goes_to, waits_then          where the next byte goes, and how many bytes wait in the buffer then
--     held_after, waits_after      what the buffer holds, and how many of its bytes wait, after a text was added
--     sent_after                  what was written out on the way
--     Added                      the contract of a call that adds a text
use Rattle.std.specs.Prelude.{ℕ, ◌+◌, min, ◌≡◌, cond, List, [], ◌∷◌, ◌++◌, length, set, ltb}

-- where the next byte goes, in a buffer of n bytes of which the first `at` wait: behind these; to the front where all
-- of them wait, since they are written out before it
abbrev pub goes_to : ℕ → ℕ → ℕ
goes_to n at = cond (ltb at n) at 0

-- how many wait then: up to that byte, and it too. A buffer of no bytes keeps none
abbrev pub waits_then : ℕ → ℕ → ℕ
waits_then n at = min (goes_to n at + 1) n

-- how many wait after a text was added
unfoldable pub waits_after : ℕ → ℕ → List ℕ → ℕ
waits_after n at [] = at
waits_after n at (b ∷ text) = waits_after n (waits_then n at) text

-- what the buffer l then holds
unfoldable pub held_after : List ℕ → ℕ → List ℕ → List ℕ
held_after l at [] = l
held_after l at (b ∷ text) = held_after (set l (goes_to (length l) at) b) (waits_then (length l) at) text

-- what was written out on the way: the whole buffer, each time that it was full and one more byte came
unfoldable pub sent_after : List ℕ → ℕ → List ℕ → List ℕ
sent_after l at [] = []
sent_after l at (b ∷ text) =
    cond (ltb at (length l)) [] l ++ sent_after (set l (goes_to (length l) at) b) (waits_then (length l) at) text

-- a text was added to the buffer l, of which the first `at` bytes waited: that gave l', of which the first at' wait
pub record Added (l : List ℕ) (at : ℕ) (text l' : List ℕ) (at' : ℕ) : Type 0 where
  pub place : at' ≡ waits_after (length l) at text
  pub held : l' ≡ held_after l at text
