-- words of two runs of a program, and their ends
mod Fronts
-- a run over rows that each reach the budget
mod Rows
-- an image that a device holds is spelt by one text
mod Spelt
-- words of an input text
mod Words
-- cuts inside a stretch are cuts
mod Cuts
-- how a run ends beside what is said
mod Ends
-- the files of the three calls
mod Calls
