mod WantSteps
