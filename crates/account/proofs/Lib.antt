-- Why the state that the past tells is the state of the run (PastIsState): what is known of a world by its past, part
-- by part, and what each call makes of it; and why a call is answered as the past tells (PastAnswers), since both
-- accounts judge alike (JudgedAlike).
pub mod NextEarly
pub mod Told
pub mod Receipts
pub mod Answers
pub mod Sends
pub mod UnderWay
pub mod Plain
pub mod Entries
pub mod Stands
pub mod Beyond
pub mod Known
pub mod PastIsState
pub mod JudgedAlike
pub mod Next
pub mod PastAnswers
