mod CheckedSteps
