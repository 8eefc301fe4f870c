mod WordLaws
mod RunLaws
