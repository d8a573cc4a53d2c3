mod SizeSteps
