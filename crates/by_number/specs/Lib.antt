-- Other: why a question that a block's type does not serve is refused (private).
pub mod Other
