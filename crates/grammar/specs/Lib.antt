-- Rule text: its grammar, its terms, the outcome of reading it, and the reader that finds it. Assumes nothing: these are definitions.
pub mod Tokens
pub mod Expression
pub mod Grammar
pub mod TwoKinds
pub mod Meaning
pub mod Words
pub mod Reader
pub mod Text
pub mod Outcome
pub mod Claims
pub mod Postfix
