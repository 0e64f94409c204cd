pub mod OneGuard
