mod HearLemmas
mod HoldLemmas
mod TalkLemmas
mod WholeLemmas
mod Worked
mod WorkedTalks
mod Written
