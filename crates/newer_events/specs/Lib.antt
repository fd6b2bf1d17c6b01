pub mod Some
