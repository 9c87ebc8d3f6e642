-- The twelve examples of RULES, and worked facts for each clause of the definitions: each boundary and one past it,
-- each value that goes with a refusal, each order where two apply. proofs/ proves them, under the same file names.
-- Read in this order: Vectors (packets and job lists, a 32-bit word to a row), Examples (what is claimed of them),
-- Rows (how the other files write bytes), then those of each definition crate: Refusals; Wire, WireWalk, WireBlock,
-- WireSummary; Standard; Crate; Questions, QuestionsSummary; Cursor, CursorCalls; Jobs, JobsLayout, JobsShown,
-- JobsWriting, JobsOrder, JobsSize, JobsLargest, JobsSummary; Marks; Portions, PortionCalls, PortionSummary; Text;
-- Dump, EventLines, DumpSummary; Probe, ProbePortions, ProbeSummary.
pub mod Vectors
pub mod Examples
pub mod Rows
pub mod Refusals
pub mod Wire
pub mod WireWalk
pub mod WireBlock
pub mod WireSummary
pub mod Standard
pub mod Crate
pub mod Questions
pub mod QuestionsSummary
pub mod Cursor
pub mod CursorCalls
pub mod Jobs
pub mod JobsLayout
pub mod JobsShown
pub mod JobsWriting
pub mod JobsOrder
pub mod JobsSize
pub mod JobsLargest
pub mod JobsSummary
pub mod Marks
pub mod Portions
pub mod PortionCalls
pub mod PortionSummary
pub mod Text
pub mod Dump
pub mod EventLines
pub mod DumpSummary
pub mod Probe
pub mod ProbePortions
pub mod ProbeSummary
