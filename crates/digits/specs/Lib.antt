-- What has to be believed about decimal numbers, in document 02's words, request 1. To be read in this order.
-- A number's digits, and what the formatter leaves.
pub mod Decimal
-- What is shown of both.
pub mod Statements
-- Numbers and scratches, with what is left of them.
pub mod Examples
-- Digits in lots, for private contracts.
pub mod Lots
