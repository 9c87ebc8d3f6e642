-- ValuesLaws (the values of words made from marks), HeardLaws (the numbers that a report on marks lists), ListLaws (the
-- records of a job list of one loss record), ReportLaws (the packet of a report on marks).
pub mod ValuesLaws
pub mod HeardLaws
pub mod ListLaws
pub mod ReportLaws
