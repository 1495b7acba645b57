-- GDSII streams (document 02, U3). Definitions only.

-- Numbers as bytes.
pub mod Bytes
-- The format, which knows of no reader.
pub mod Format
-- The record that a stream opens with, and which records are asked for in which order.
pub mod Records
