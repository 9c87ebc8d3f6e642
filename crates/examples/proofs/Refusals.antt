-- Refusals, by computation.
use mathlib.Core.Path.{refl}
use Rattle.def_refusals.specs.Numbers.{numbered}
use Rattle.def_refusals.specs.Answers.{answer_of, filled_of}
use Rattle.examples.specs.Refusals.{Numbers, Answers, OneAfterAnother}

pub numbers-hold : Numbers
unfolding numbered answer_of filled_of
numbers-hold =
    record {
      row-1 = refl;
      row-2 = refl;
      row-3 = refl;
      row-4 = refl;
      row-5 = refl;
      row-6 = refl;
      row-9 = refl;
      row-10 = refl;
      row-7 = refl;
      row-8 = refl;
      row-16 = refl;
      row-11 = refl;
      row-13 = refl;
      row-12 = refl;
      row-14 = refl;
      row-15 = refl;
      row-17 = refl;
      row-18 = refl;
      row-19 = refl;
      in_a_row = refl;
    }

pub answers-hold : Answers
unfolding numbered answer_of filled_of
answers-hold =
    record {
      enough = (refl, refl, refl);
      short = (refl, refl);
      other-first = (refl, refl);
      rest-kept = (refl, refl);
      exact = refl;
      left-as-is = (refl, refl, refl);
      listed = (record { answer = refl; filled = refl }, record { answer = refl; filled = refl });
      not_listed = (record { answer = refl; filled = refl }, record { answer = refl; filled = refl });
      no_other = λ r out holds. (holds.answer, holds.filled);
    }

pub one-after-another-hold : OneAfterAnother
unfolding numbered answer_of filled_of
one-after-another-hold =
    record {
      shown-then = (refl, refl);
      refused-then = refl;
      done-then = (refl, refl);
      fine-then = (refl, refl, refl);
      checks = (refl, refl, refl, refl);
      each_part = (refl, refl);
    }
