mod ReportSteps
