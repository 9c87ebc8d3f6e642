-- Text, by computation.
use mathlib.Core.Path.{refl}
use Rattle.def_text.specs.Buffer.{waits_after, held_after, sent_after}
use Rattle.def_text.specs.Numerals.{decimal_within, hexes_of, spaced_all, two_in_turn, three_in_turn}
use Rattle.examples.specs.Text.{ThroughABuffer, NumbersAsText}

pub through-a-buffer-holds : ThroughABuffer
unfolding waits_after held_after sent_after
through-a-buffer-holds =
    record {
      into-room = (refl, refl, refl);
      last-place = (refl, refl, refl);
      where-full = (refl, refl, refl);
      past_the_end = (refl, refl, refl);
      no_text = (refl, refl, refl, refl);
      no_bytes = (refl, refl, refl, refl);
      more-than-once = (refl, refl, refl);
      a_call = record { place = refl; held = refl };
    }

pub numbers-as-text-hold : NumbersAsText
unfolding decimal_within hexes_of spaced_all two_in_turn three_in_turn
numbers-as-text-hold =
    record {
      characters = refl;
      no-characters = refl;
      digits = (refl, refl, refl, refl);
      one-digit = (refl, refl, refl);
      two_digits = (refl, refl, refl);
      three-digits = (refl, refl);
      largest = (refl, refl, refl);
      twenty = (refl, refl);
      hex = (refl, refl, refl, refl, refl);
      hexes = (refl, refl);
      spaces = (refl, refl, refl, refl);
      labels = (refl, refl);
      by-twos = (refl, refl, refl);
      by-threes = (refl, refl, refl, refl);
    }
