mod FlagMatch
mod OneGuard
