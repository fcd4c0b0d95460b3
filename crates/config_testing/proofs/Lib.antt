mod Counting
mod TestedSteps
