-- What xrprobe answers to a request. To be read beside the table of README, "xrprobe".
pub mod Requests
