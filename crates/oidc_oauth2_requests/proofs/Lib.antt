mod Described
mod Judges
mod JudgeRecords
mod JudgeRevocations
mod JudgeSteps
