-- AddedLaws (text through a lent buffer), DigitLaws (decimal digits), ListLaws (lists with a space before each number).
pub mod AddedLaws
pub mod DigitLaws
pub mod ListLaws
pub mod Unique
