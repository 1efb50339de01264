pub mod Tailored
