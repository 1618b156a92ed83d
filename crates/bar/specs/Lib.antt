pub mod OneBar
