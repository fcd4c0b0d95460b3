pub mod DrainingSteps
